-- What is read off the nodes of a floor: the entries of its map, and the versions of its nodes.
use Rattle.std.specs.Prelude.{ℕ, Bool, ◌&&◌, List, map}
use Rattle.jf_hash.specs.Maps.{map_of_entries}
use Rattle.jf_split.specs.KeyOrder.{in_key_order}
use Rattle.jf_model.specs.Nodes.{Path, nodes}
use Rattle.jf_update.specs.Restored.{AreNodeVersions}
use Rattle.jf_codec.specs.Counted.{in_format}
use Rattle.jf_codec.specs.declared.format.Format.{Format}
use Rattle.jf_standing.specs.Named.{NamedNode, leaf_entries}
use Rattle.jf_standing.specs.Same.{same_name, same_node}

-- the path of a node and the version that wrote it
abbrev pub path_and_version : NamedNode → Path × ℕ
path_and_version n = (n.0.path, n.0.version)

-- the entries of the leaves of nodes, in the order of their keys
abbrev pub entries_in : List NamedNode → List (List ℕ × List ℕ)
entries_in ns = in_key_order (leaf_entries ns)

-- the versions of nodes, in the order of their paths
abbrev pub versions_by_path : List NamedNode → List ℕ
versions_by_path ns = map (λ e. e.1) (in_key_order (map path_and_version ns))

-- ---- comparison
-- what a format keeps of a named node
abbrev pub listed_in : Format → NamedNode → NamedNode
listed_in fmt n = (n.0, in_format fmt n.1, n.2)

-- whether two named nodes have one name and are equal
abbrev pub same_listed : NamedNode → NamedNode → Bool
same_listed m n = same_name m.0 n.0 && same_node m.1 n.1

-- ---- the versions of the nodes
-- the versions may be those of the nodes of the map
abbrev pub AreFloorVersions : ℕ → List NamedNode → Type 0
AreFloorVersions floor ns = AreNodeVersions floor (nodes (map_of_entries (entries_in ns))) (versions_by_path ns)
