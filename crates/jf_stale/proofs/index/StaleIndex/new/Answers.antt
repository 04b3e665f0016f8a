use Rattle.std.proofs.Common.{sym, subst, refl}
use Rattle.std.specs.List.Sorted.{IsStrictlySortedBy}
use Rattle.jf_stale.specs.Groups.{HoldMarks}
use Rattle.jf_stale.proofs.index.StaleIndex.new.Goals as goal

pub invariant_of-result : goal.invariant_of-result
unfolding IsStrictlySortedBy
invariant_of-result c = subst (λ gs. HoldMarks gs 0) (sym c.new.ensures.items) (record { rising = tt; ascending = tt; counted = refl })
