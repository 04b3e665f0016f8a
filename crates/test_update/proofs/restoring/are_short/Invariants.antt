use Rattle.std.proofs.Common.{take}
use Rattle.jf_update.specs.Restored.{AreShortEntries}
use Rattle.test_update.proofs.restoring.are_short.Given as goal

-- the values so far are short
abbrev pub invariant-loop-entry : goal.invariant-loop-entry
invariant-loop-entry l = AreShortEntries (take l.entry-index l.entries)
