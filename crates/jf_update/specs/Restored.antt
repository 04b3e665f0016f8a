-- The snapshot that is built anew from entries and the versions of nodes, and the nodes that the steps make.
use Rattle.std.specs.Prelude.{◌≡◌, ◌≤◌, ◌+◌, ◌-◌, ℕ, List, [], ◌∷◌, Option, Some, None, length, map, take, drop, slice_index_or, ◌<◌, cond}
use Rattle.std.specs.FinMap.{entries}
use Rattle.std.specs.List.{AllByRecursion, zip}
use Rattle.jf_path.specs.Limits.{max_value}
use Rattle.jf_hash.specs.Slots.{Part, with_nibble}
use Rattle.jf_model.specs.Nodes.{Path, nodes, nodes_below, has_one}
use Rattle.jf_model.specs.Walk.{each_from}
use Rattle.jf_node.specs.LinkValue.{LinkValue}
use Rattle.jf_node.specs.Children.{content, FitFrom, versions_from}
use Rattle.jf_node.specs.SnapshotValue.{SnapshotValue}
use Rattle.jf_diff.specs.OptionalNodes.{IsAtDepth}

-- each value has at most 4,096 bytes
abbrev pub AreShortEntries : Part → Type 0
AreShortEntries es = AllByRecursion (λ e. length e.1 ≤ max_value) es

-- the first version is this one, and none is greater
pub record IsNewestFirst (version : ℕ) (versions : List ℕ) : Type 0 where
  pub first : take 1 versions ≡ version ∷ []
  pub newest : AllByRecursion (λ v. v ≤ version) versions

-- versions that the nodes of a snapshot may have, one for each node: the root, which is the first node, has the
-- snapshot's version, and none has a greater one
pub record AreNodeVersions (version : ℕ) (listed : List (Path × Part)) (versions : List ℕ) : Type 0 where
  pub each : length versions ≡ length listed
  pub root : IsNewestFirst version versions

-- the path of each node beside its version, if the versions stand in the order of the nodes
abbrev pub by_path : List (Path × Part) → List ℕ → List (Path × ℕ)
by_path listed versions = zip (map (λ x. x.0) listed) versions

-- s is the snapshot of these entries, whose nodes have these versions in the order of their paths
pub record IsRestored (at : ℕ) (es : Part) (written : List ℕ) (s : SnapshotValue) : Type 0 where
  pub version : s.version ≡ at
  pub same : entries s.map ≡ es
  pub versions : s.versions ≡ by_path (nodes s.map) written
  pub sound : AreNodeVersions at (nodes s.map) written

-- ---- the steps
-- the nodes of a part at a depth: none if it has no entry
unfoldable pub part_nodes : ℕ → Part → List (Path × Part)
part_nodes depth es = cond (has_one es) (nodes_below (64 - depth) depth es) []

-- the nodes of the child at nibble n of a node with two entries or more
unfoldable pub nodes_at : ℕ → Part → ℕ → List (Path × Part)
nodes_at depth es n = map (λ (x : Path × Part). (n ∷ x.0, x.1)) (part_nodes (depth + 1) (with_nibble depth n es))

-- the nodes below a node with two entries or more
unfoldable pub nodes_under : ℕ → Part → List (Path × Part)
nodes_under depth es = each_from 16 0 (nodes_at depth es)

-- the versions of the nodes of an optional node
abbrev pub link_versions : Option LinkValue → List (Path × ℕ)
link_versions None = []
link_versions (Some x) = x.versions

-- y is the node of the entries es, if there are any; its nodes take the versions after the first `from`, up to `to`
pub record IsRestoredPart (depth : ℕ) (es : Part) (written : List ℕ) (from to : ℕ) (y : Option LinkValue) : Type 0 where
  pub entries : content y ≡ es
  pub placed : IsAtDepth depth y
  pub taken : to ≡ from + length (part_nodes depth es)
  pub enough : from ≤ length written → to ≤ length written
  pub versions : link_versions y ≡ by_path (part_nodes depth es) (drop from written)

-- sixteen children of the node of the entries es, whose nodes take the versions after the first `from`, up to `to`
pub record AreRestored (depth : ℕ) (es : Part) (written : List ℕ) (from to : ℕ) (links : List (Option LinkValue)) : Type 0 where
  pub long : length links ≡ 16
  pub fit : FitFrom depth 0 links
  pub each : (n : ℕ) → n < 16 → content (slice_index_or links n None) ≡ with_nibble depth n es
  pub taken : to ≡ from + length (nodes_under depth es)
  pub enough : to ≤ length written
  pub versions : versions_from 0 links ≡ by_path (nodes_under depth es) (drop from written)
