-- The nodes that a landing makes stale, by themselves.
use Rattle.std.specs.Prelude.{◌≡◌, ℕ, ◌+◌, List, [], ◌∷◌, ◌++◌, length, map, true, Option, Some, if◌then◌else◌, IsTrue}
use Rattle.std.specs.FinMap.{entries}
use Rattle.jf_path.specs.declared.name.NodeName.{NodeName}
use Rattle.jf_path.specs.declared.node.PlainNode.{PlainNode}
use Rattle.jf_hash.specs.Maps.{Map}
use Rattle.jf_hash.specs.Slots.{Part}
use Rattle.jf_model.specs.Nodes.{Path, plain_node, is_node, is_fresh, stale}
use Rattle.jf_node.specs.LinkValue.{LinkValue}
use Rattle.jf_node.specs.SnapshotValue.{SnapshotValue}
use Rattle.jf_node.specs.Snapshots.{snapshot_version_at}
use Rattle.jf_diff.specs.Landings.{version_in}
use Rattle.jf_diff.specs.Below.{name_below}
use Rattle.jf_diff.specs.Plains.{plain_at, plain_under}
use Rattle.jf_diff.specs.Tops.{old_name}

-- new is a snapshot of the version after old's, in which each node that isn't fresh keeps its version
pub record IsLaterSnapshot (old new : SnapshotValue) : Type 0 where
  pub version : new.version ≡ old.version + 1
  pub versions : (path : Path) → IsTrue (is_node 0 path (entries new.map))
      → snapshot_version_at path new ≡ (if is_fresh (entries old.map) (entries new.map) path then Some new.version else snapshot_version_at path old)

-- a node of a snapshot: its name there, the node by itself, and a version since which it is stale
abbrev pub gone_node_in : SnapshotValue → ℕ → Path × Part → NodeName × PlainNode × ℕ
gone_node_in head since x = (record { version = version_in head x.0; path = x.0 }, plain_node true (λ i. version_in head (x.0 ++ i ∷ [])) (length x.0) x.1, since)

-- the nodes of the old map that the landing of the new one makes stale, as the old snapshot has them
abbrev pub gone_nodes : Map → Map → SnapshotValue → ℕ → List (NodeName × PlainNode × ℕ)
gone_nodes old new head since = map (gone_node_in head since) (stale old new)

-- a node at a path below x, if x stands at the path `front`, as stale since a version
abbrev pub gone_node_below : ℕ → Path → LinkValue → Path → NodeName × PlainNode × ℕ
gone_node_below since front x path = (name_below front x path, plain_at x path, since)

-- a node at a path below an optional top of the version `head`, as stale since a version
abbrev pub gone_node_under : ℕ → ℕ → Option LinkValue → Path → NodeName × PlainNode × ℕ
gone_node_under since head top path = (old_name head top path, plain_under top path, since)
