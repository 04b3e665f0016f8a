-- The update of a snapshot by a batch: what it returns, in one record.
use Rattle.std.specs.Prelude.{◌+◌, length, ◌≡◌, ◌*◌, ◌≤◌}
use Rattle.std.specs.List.Sorted.{IsPermutation}
use Rattle.jf_hash.specs.Maps.{Batch, apply}
use Rattle.jf_hash.specs.Roots.{root}
use Rattle.jf_node.specs.SnapshotValue.{SnapshotValue}
use Rattle.jf_node.specs.declared.update.Update.{Update}
use Rattle.jf_diff.specs.Landings.{IsNextSnapshot, written_nodes, stale_names_in}

-- u is the update of the snapshot by the batch: the next snapshot, its root, the nodes that are written and the names of
-- those that are stale; and a batch of n keys writes at most 66 n + 1 nodes
pub record IsUpdate (head : SnapshotValue) (b : Batch) (u : Update) : Type 0 where
  pub next : IsNextSnapshot head b u.snapshot
  pub root : u.root ≡ root (apply head.map b)
  pub fresh : u.fresh ≡ written_nodes head.map (apply head.map b) u.snapshot
  pub stale : IsPermutation (stale_names_in head.map (apply head.map b) head) u.stale
  pub bound : length u.fresh ≤ 66 * length b + 1
