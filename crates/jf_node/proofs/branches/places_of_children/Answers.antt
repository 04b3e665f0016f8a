use Rattle.std.proofs.Common.{◌∙◌, ap, sym, arith, get_or, None}
use Rattle.std.specs.Option.{is_some}
use Rattle.jf_node.proofs.BranchLaws.{same_bits}
use Rattle.jf_node.proofs.branches.places_of_children.Goals as goal

pub returns : goal.returns
returns c =
    same_bits is_some c.loop-n.there c.args.children.now (c.loop-n.invariant.0 ∙ sym c.know.ensures.long) (λ k lt.
    c.loop-n.invariant.1 k (omega (arith, lt, c.know.ensures.long, c.loop-n-test.false)) ∙ ap (λ xs. is_some (get_or xs k None)) c.children.view_is)
