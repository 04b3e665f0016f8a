-- What is asked of a landing that was read, beside that it writes what a landing writes.
use Rattle.std.specs.Prelude.{◌≡◌, ◌+◌, ◌<◌, ◌≤◌, ◌^◌, List, true}
use Rattle.std.specs.FinMap.{entries, len}
use Rattle.std.specs.List.{AllByRecursion}
use Rattle.jf_path.specs.declared.name.NodeName.{NodeName}
use Rattle.jf_hash.specs.Maps.{Map, apply}
use Rattle.jf_hash.specs.Slots.{Part}
use Rattle.jf_model.specs.Nodes.{is_node}
use Rattle.jf_codec.specs.declared.format.Format.{Format}
use Rattle.jf_codec.specs.declared.format.Format.TheVariants as format
use Rattle.jf_payload.specs.declared.records.Commit.{Commit}
use Rattle.jf_payload.specs.Counted.{commit_in}
use Rattle.jf_standing.specs.Named.{not_stale, version_at}
use Rattle.jf_standing.specs.Standing.{Standing}
use Rattle.jf_standing.specs.Landing.{head_map, landing_of, fresh_leaves}
use Rattle.jf_replay.specs.Changes.{changes_by}

-- the map that the leaves of a landing and the names that it marks stale lead to
abbrev pub map_by : Standing → Part → List NodeName → Map
map_by s leaves stale = apply (head_map s) (changes_by (head_map s) leaves stale)

-- the map that a landing which was read leads to
abbrev pub read_map : Standing → Commit → Map
read_map s c = map_by s (fresh_leaves c) c.stale

-- a name is that of a node of the head's map
abbrev pub IsNameAtHead : Standing → NodeName → Type 0
IsNameAtHead s name = (is_node 0 name.path (entries (head_map s)) ≡ true) × (version_at s.head s.nodes name.path ≡ name.version)

-- a next version is left, nodes of the head's map are marked stale, and leaves and stale names lead to a map of at most 2^63 entries
pub record MayBeNext (s : Standing) (leaves : Part) (stale : List NodeName) : Type 0 where
  pub last : s.head + 1 < not_stale
  pub named : AllByRecursion (IsNameAtHead s) stale
  pub room : len (map_by s leaves stale) ≤ 2 ^ 63

-- a landing writes what a format keeps of the landing of the map that it leads to
abbrev pub IsAsLanded : Format → Standing → Commit → Type 0
IsAsLanded fmt s c = c ≡ commit_in fmt (landing_of format.Two s (read_map s c))
