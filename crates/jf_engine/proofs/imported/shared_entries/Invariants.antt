use Rattle.std.proofs.Common.{◌≡◌, take}
use Rattle.jf_engine.proofs.imported.shared_entries.Given as goal

-- the entries so far
abbrev pub invariant-loop-entry : goal.invariant-loop-entry
invariant-loop-entry l = l.shared.items ≡ take l.entry-index l.entries
