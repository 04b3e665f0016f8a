use Rattle.std.proofs.Common.{arith, sym, ap, ◌∙◌, Some, None, get_or}
use Rattle.std.specs.Option.{option_copied}
use Rattle.jf_update.proofs.BuildLaws.{first_some, joined-none}
use Rattle.jf_update.proofs.node.first_child.Goals as goal

pub returns-in-Some-clause-found : goal.returns-in-Some-clause-found
returns-in-Some-clause-found c =
    first_some c.args.children.now c.loop-n.n (Some c.in-Some.child) (sym (ap option_copied c.in-Some.is) ∙ c.get.ensures ∙ ap (λ k. get_or c.args.children.now k None) c.of.ensures) (omega (arith, c.know.ensures.long)) c.loop-n.invariant

pub returns-clause-none : goal.returns-clause-none
returns-clause-none c = joined-none c.args.children.now (λ k lt. c.loop-n.invariant k (omega (arith, c.know.ensures.long)))
