use Rattle.std.proofs.Common.{◌≡◌, take}
use Rattle.jf_split.proofs.batch.Batch.copy.Given as goal

abbrev pub invariant-loop-key : goal.invariant-loop-key
invariant-loop-key l = l.entries.items ≡ take l.key-index l.key-items
