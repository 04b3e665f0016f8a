use Rattle.std.proofs.Common.{◌≤◌, take}
use Rattle.std.specs.List.{AllByRecursion}
use Rattle.jf_update.proofs.restore.is_none_greater.Given as goal

-- none of the versions so far is greater
abbrev pub invariant-loop-written : goal.invariant-loop-written
invariant-loop-written l = AllByRecursion (λ v. v ≤ l.version) (take l.written-index l.versions)
