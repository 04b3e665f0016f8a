use Rattle.std.proofs.Common.{◌≡◌, [], ◌-◌, drop, length}
use Rattle.jf_standing.proofs.Batches.{removals_of}
use Rattle.jf_replay.specs.Changes.{leaves_at, put_each}
use Rattle.jf_replay.proofs.changes.removals.Given as goal

-- the leaves of the names so far are removed
abbrev pub invariant-loop-name : goal.invariant-loop-name
invariant-loop-name l = l.changes.entries ≡ put_each (removals_of (leaves_at l.snapshot.map (drop (length l.names - length l.yielded) l.names))) []
