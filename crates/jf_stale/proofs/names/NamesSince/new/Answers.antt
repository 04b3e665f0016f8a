use Rattle.std.proofs.Common.{sym, subst}
use Rattle.std.specs.List.Sorted.{IsStrictlySortedBy}
use Rattle.jf_stale.specs.Groups.{AreAscendingNames}
use Rattle.jf_stale.proofs.names.NamesSince.new.Goals as goal

pub invariant_of-result : goal.invariant_of-result
unfolding IsStrictlySortedBy
invariant_of-result c = subst AreAscendingNames (sym c.new.ensures.items) tt
