use Rattle.std.proofs.Common.{take}
use Rattle.jf_restore.specs.Restores.{HaveShortValues}
use Rattle.jf_restore.proofs.short.have_short_values.Given as goal

abbrev pub invariant-loop-entry : goal.invariant-loop-entry
invariant-loop-entry l = HaveShortValues (take l.entry-index l.entries)
