-- The changes that are read off a landing, by the nodes of the head's map.
use Rattle.std.specs.Prelude.{ℕ, List, [], ◌∷◌, ◌++◌, map, Option, Some, None, ◌≡◌}
use Rattle.std.specs.FinMap.{entries, put}
use Rattle.jf_path.specs.declared.name.NodeName.{NodeName}
use Rattle.jf_path.specs.Keys.{key_cmp}
use Rattle.jf_hash.specs.Maps.{Map, Batch}
use Rattle.jf_hash.specs.Slots.{Part}
use Rattle.jf_model.specs.Nodes.{Path, under}
use Rattle.jf_model.specs.ChildEntries.{sub}
use Rattle.jf_payload.specs.declared.records.Commit.{Commit}
use Rattle.jf_standing.specs.Landing.{by_key, fresh_leaves}
use Rattle.jf_node.specs.Children.{content}
use Rattle.jf_node.specs.LinkFacts.{IsLinkIf}
use Rattle.jf_node.specs.LinkValue.{LinkValue, link_version_at}
use Rattle.jf_node.specs.SnapshotValue.{SnapshotValue}
use Rattle.jf_node.specs.Snapshots.{snapshot_version_at}

-- ---- nodes by name
-- c is the node at a path below x
pub record IsAtPath (x : LinkValue) (path : Path) (c : Option LinkValue) : Type 0 where
  pub entries : content c ≡ sub x.depth path x.entries
  pub version : link_version_at [] c ≡ link_version_at path (Some x)
  pub sound : IsLinkIf c

-- a snapshot has a node of this name
abbrev pub IsNameIn : SnapshotValue → NodeName → Type 0
IsNameIn s name = snapshot_version_at name.path s ≡ Some name.version

-- ---- changes
-- the entry of a part that has just one
abbrev pub sole : Part → Part
sole [] = []
sole (e ∷ []) = e ∷ []
sole (e ∷ f ∷ es) = []

-- the entries of those nodes of a map, by their names, that are leaves
abbrev pub leaves_at : Map → List NodeName → Part
leaves_at m [] = []
leaves_at m (name ∷ names) = sole (under 0 name.path (entries m)) ++ leaves_at m names

-- the changes that are read off the leaves of a landing and the names that it marks stale, on a map: leaves are put; keys of stale leaves are removed unless a leaf has them
abbrev pub changes_by : Map → Part → List NodeName → Batch
changes_by m leaves stale = by_key (map (λ e. (e.0, Some e.1)) leaves ++ map (λ e. (e.0, None)) (leaves_at m stale))

-- the changes that are read off a landing on a map
abbrev pub changes_of : Map → Commit → Batch
changes_of m c = changes_by m (fresh_leaves c) c.stale

-- the removal of an optional key
abbrev pub removal_of : Option (List ℕ) → Batch
removal_of None = []
removal_of (Some key) = (key, None) ∷ []

-- changes with others put over them, the last of these first
abbrev pub put_each : Batch → Batch → Batch
put_each [] b = b
put_each (e ∷ es) b = put key_cmp e.0 e.1 (put_each es b)
