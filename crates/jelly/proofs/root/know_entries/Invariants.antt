use Rattle.std.proofs.Common.{take}
use Rattle.jelly.specs.MapRoots.{HaveKeys}
use Rattle.jelly.proofs.root.know_entries.Given as goal

abbrev pub invariant-loop-entry : goal.invariant-loop-entry
invariant-loop-entry l = HaveKeys (take l.entry-index l.entries)
