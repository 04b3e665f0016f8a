use Rattle.std.proofs.Common.{take}
use Rattle.jf_update.specs.ValueHashes.{AreValueHashes}
use Rattle.jf_update.proofs.hashing.hashes_in_order.Given as goal

abbrev pub invariant-loop-entry : goal.invariant-loop-entry
invariant-loop-entry l = AreValueHashes (take l.entry-index l.entries) l.hashes.items
