use Rattle.std.proofs.Common.{sym, ap, ◌∙◌}
use Rattle.std.proofs.lemmas.Bool.{ne_eqb}
use Rattle.jf_model.specs.Batches.{apply_all}
use Rattle.jf_model.specs.Forks.{batches}
use Rattle.jf_forks.proofs.Chains.{grown_first}
use Rattle.jf_forks.proofs.Numbers.{first_among}
use Rattle.jf_forks.proofs.live.tree_of.Goals as goal

pub returns-then-fork-id-clause-map : goal.returns-then-fork-id-clause-map
returns-then-fork-id-clause-map c = λ m h.
    grown_first _ _ _ _ c.in-Some.ensures.cases.0 c.if-fork-id.true m (c.from_number.ensures.stands m h)
    ∙ ap (λ fs. apply_all m (batches fs)) c.from_number.ensures.chained

pub returns-else-fork-id-clause-none : goal.returns-else-fork-id-clause-none
returns-else-fork-id-clause-none c =
    sym c.from_number.ensures.among ∙ first_among _ _ _ _ c.in-Some.ensures.cases.0 c.from_number.ensures.forks ∙ ne_eqb _ _ c.if-fork-id.false
