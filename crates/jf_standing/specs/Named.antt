-- Nodes by name, with the version since which each is stale, and the map of the leaves that are alive at a version.
use Rattle.std.specs.Prelude.{ℕ, ◌-◌, ◌^◌, Bool, ◌&&◌, ◌==◌, nat_le, nat_lt, List, map, filter, filter_map, slice_index_or, bytes_eq, Option, Some, None}
use Rattle.std.specs.List.{AllByRecursion}
use Rattle.std.specs.FinMap.{from_entries}
use Rattle.jf_path.specs.Keys.{IsKey, IsBytes}
use Rattle.jf_path.specs.declared.name.NodeName.{NodeName}
use Rattle.jf_path.specs.declared.node.PlainNode.{PlainNode}
use Rattle.jf_path.specs.declared.node.PlainNode.TheVariants as node
use Rattle.jf_hash.specs.Maps.{Map}
use Rattle.jf_model.specs.Nodes.{Path}

-- a named node: its name, the node, and the version since which it is stale
abbrev pub NamedNode : Type 0
NamedNode = NodeName × PlainNode × ℕ

-- stands in place of the version since which a node is stale, if the node isn't stale
abbrev pub not_stale : ℕ
not_stale = 2 ^ 64 - 1

-- ---- nodes at a version

-- whether a node is alive at w: written at w or before, and not stale at w
abbrev pub is_alive : ℕ → NamedNode → Bool
is_alive w n = nat_le n.0.version w && nat_lt w n.2

-- whether a node was written at w
abbrev pub is_written : ℕ → NamedNode → Bool
is_written w n = n.0.version == w

-- whether a node went stale at w
abbrev pub is_stale : ℕ → NamedNode → Bool
is_stale w n = n.2 == w

-- the nodes alive at w
abbrev pub alive_nodes_at : ℕ → List NamedNode → List NamedNode
alive_nodes_at w ns = filter (is_alive w) ns

-- the nodes written at w
abbrev pub written_nodes_at : ℕ → List NamedNode → List NamedNode
written_nodes_at w ns = filter (is_written w) ns

-- the nodes that went stale at w
abbrev pub stale_nodes_at : ℕ → List NamedNode → List NamedNode
stale_nodes_at w ns = filter (is_stale w) ns

-- whether a node stands at a path
abbrev pub is_at : Path → NamedNode → Bool
is_at p n = bytes_eq n.0.path p

-- the version of the node that is alive at w at a path, 0 if no node is
abbrev pub version_at : ℕ → List NamedNode → Path → ℕ
version_at w ns p = slice_index_or (map (λ n. n.0.version) (filter (is_at p) (alive_nodes_at w ns))) 0 0

-- ---- the map at a version

-- the entry of a leaf
abbrev pub leaf_entry : PlainNode → Option (List ℕ × List ℕ)
leaf_entry node.Null = None
leaf_entry (node.Leaf key value) = Some (key, value)
leaf_entry (node.Inner cs) = None

-- the entries of all leaves
abbrev pub leaf_entries : List NamedNode → List (List ℕ × List ℕ)
leaf_entries ns = filter_map (λ n. leaf_entry n.1) ns

-- entries whose keys have 32 bytes and whose values are bytes
abbrev pub AreEntries : List (List ℕ × List ℕ) → Type 0
AreEntries es = AllByRecursion (λ e. IsKey e.0 × IsBytes e.1) es

-- the map of the leaves alive at w
unfoldable pub map_at : ℕ → List NamedNode → Map
map_at w ns = from_entries (leaf_entries (alive_nodes_at w ns))
