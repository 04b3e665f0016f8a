use Rattle.std.proofs.Common.{◌≡◌, ◌-◌, drop, length}
use Rattle.jf_standing.proofs.Batches.{puts_of}
use Rattle.jf_replay.specs.Changes.{put_each}
use Rattle.jf_replay.proofs.changes.put_leaves.Given as goal

-- the leaves so far are put
abbrev pub invariant-loop-leaf : goal.invariant-loop-leaf
invariant-loop-leaf l = l.changes.entries ≡ put_each (puts_of (drop (length l.leaves - length l.yielded) l.leaves)) l.initial.changes.entries
