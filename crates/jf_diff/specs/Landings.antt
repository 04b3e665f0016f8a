-- What a snapshot is after a landing over an older one, and what the landing writes and makes stale.
use Rattle.std.specs.Prelude.{ℕ, Option, Some, None, ◌+◌, true, [], ◌∷◌, ◌++◌, length, List, map, ◌≡◌, ◌*◌, ◌≤◌, if◌then◌else◌, IsTrue}
use Rattle.std.specs.FinMap.{entries}
use Rattle.jf_path.specs.declared.name.NodeName.{NodeName}
use Rattle.jf_path.specs.declared.node.PlainNode.{PlainNode}
use Rattle.jf_hash.specs.Slots.{Part}
use Rattle.jf_hash.specs.Maps.{Map, Batch, IsBatch, apply}
use Rattle.jf_model.specs.Nodes.{Path, plain_node, fresh, stale, is_node, is_fresh}
use Rattle.jf_node.specs.SnapshotValue.{SnapshotValue}
use Rattle.jf_node.specs.Snapshots.{snapshot_version_at}

-- the version of a node, and 0 if there is none
abbrev pub version_or : Option ℕ → ℕ
version_or None = 0
version_or (Some v) = v

-- the version of a node of a snapshot
abbrev pub version_in : SnapshotValue → Path → ℕ
version_in s path = version_or (snapshot_version_at path s)

-- a node that a landing writes: its name, and the node by itself with the versions of its children in the new snapshot
abbrev pub written_node_in : SnapshotValue → Path × Part → NodeName × PlainNode
written_node_in s x = (record { version = s.version; path = x.0 }, plain_node true (λ i. version_in s (x.0 ++ i ∷ [])) (length x.0) x.1)

-- the nodes that a landing of the new map over the old one writes
abbrev pub written_nodes : Map → Map → SnapshotValue → List (NodeName × PlainNode)
written_nodes old new s = map (written_node_in s) (fresh old new)

-- the names under which the old snapshot has the nodes that the landing marks stale
abbrev pub stale_names_in : Map → Map → SnapshotValue → List NodeName
stale_names_in old new head = map (λ x. record { version = version_in head x.0; path = x.0 }) (stale old new)

-- s is the snapshot after the changes: the map after them as the next version, in which each node that isn't fresh keeps
-- its version
pub record IsNextSnapshot (head : SnapshotValue) (b : Batch) (s : SnapshotValue) : Type 0 where
  pub map : s.map ≡ apply head.map b
  pub version : s.version ≡ head.version + 1
  pub versions : (path : Path) → IsTrue (is_node 0 path (entries (apply head.map b)))
      → snapshot_version_at path s ≡ (if is_fresh (entries head.map) (entries (apply head.map b)) path then Some (head.version + 1) else snapshot_version_at path head)

-- new is the snapshot after some changes of the old one
abbrev pub IsNextOf : SnapshotValue → SnapshotValue → Type 0
IsNextOf old new = (b : Batch) × IsNextSnapshot old b new

-- so many nodes are fresh in new over old: at most 66 n + 1 for a batch of n keys that makes new of old
abbrev pub IsFreshCount : SnapshotValue → SnapshotValue → ℕ → Type 0
IsFreshCount old new count = (b : Batch) → IsBatch b → IsNextSnapshot old b new → count ≤ 66 * length b + 1
