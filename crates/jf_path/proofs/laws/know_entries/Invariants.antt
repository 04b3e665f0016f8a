use Rattle.std.proofs.Common.{take}
use Rattle.std.specs.List.{AllByRecursion}
use Rattle.jf_path.specs.Keys.{IsKey}
use Rattle.jf_path.proofs.laws.know_entries.Given as goal

abbrev pub invariant-loop-entry : goal.invariant-loop-entry
invariant-loop-entry g l = AllByRecursion (λ e. IsKey e.0) (take l.entry-index l.entries)
