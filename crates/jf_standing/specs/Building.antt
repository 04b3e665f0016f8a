-- Standings built from maps: from one map, and from later maps landed on it in turn.
use Rattle.std.specs.Prelude.{ℕ, zero, suc, ◌+◌, ◌-◌, List, [], ◌∷◌, ◌++◌, map, reverse, drop, length}
use Rattle.std.specs.FinMap as fin
use Rattle.jf_path.specs.declared.name.NodeName.{NodeName}
use Rattle.jf_path.specs.declared.node.PlainNode.{PlainNode}
use Rattle.jf_hash.specs.Maps.{Map, Batch, apply}
use Rattle.jf_hash.specs.Roots.{root}
use Rattle.jf_hash.specs.Slots.{Part}
use Rattle.jf_model.specs.Nodes.{Path, nodes, plain_node}
use Rattle.jf_codec.specs.declared.format.Format.{Format}
use Rattle.jf_standing.specs.Named.{NamedNode, not_stale, version_at, map_at}
use Rattle.jf_standing.specs.Order.{by_name}
use Rattle.jf_standing.specs.Standing.{Standing, with_commit}
use Rattle.jf_standing.specs.Sound.{is_counted}
use Rattle.jf_standing.specs.Landing.{head_map, landing_of}
use Rattle.jf_payload.specs.declared.records.Commit.{Commit}
use Rattle.jf_payload.specs.declared.records.Record.{Record}
use Rattle.jf_payload.specs.declared.records.Record.TheVariants as «record»

-- a node of a map with its name, not stale; `version` gives the version of the node at each path
abbrev pub node_of : Format → (Path → ℕ) → Path × Part → NamedNode
node_of fmt version x = (record { version = version x.0; path = x.0 }, plain_node (is_counted fmt) (λ i. version (x.0 ++ i ∷ [])) (length x.0) x.1, not_stale)

-- a standing with one version, its floor: the nodes of one map
abbrev pub floor_standing : Format → ℕ → ℕ → List (List ℕ) → Map → (Path → ℕ) → Standing
floor_standing fmt base floor roots m version = record { base = base; floor = floor; head = floor; roots = roots; nodes = map (node_of fmt version) (nodes m) }

-- a standing of one map whose nodes are all of one version
abbrev pub imported_standing : Format → ℕ → Map → Standing
imported_standing fmt version m = floor_standing fmt version version (root m ∷ []) m (λ path. version)

-- a new store
abbrev pub new_standing : Format → Standing
new_standing fmt = imported_standing fmt 0 fin.empty

-- a standing after the landing of one map
abbrev pub landed_on : Format → Map → Standing → Standing
landed_on fmt m s = with_commit (landing_of fmt s m) s

-- a standing after the landings of maps, one after another
abbrev pub built_standing : Format → Standing → List Map → Standing
built_standing fmt s [] = s
built_standing fmt s (m ∷ ms) = built_standing fmt (landed_on fmt m s) ms

-- the landings of batches, one after another
abbrev pub landings_of : Format → Standing → List Batch → List Commit
landings_of fmt s [] = []
landings_of fmt s (b ∷ bs) = landing_of fmt s (apply (head_map s) b) ∷ landings_of fmt (landed_on fmt (apply (head_map s) b) s) bs

-- a standing after the landings of batches, one after another
abbrev pub all_landed : Format → Standing → List Batch → Standing
all_landed fmt s [] = s
all_landed fmt s (b ∷ bs) = all_landed fmt (landed_on fmt (apply (head_map s) b) s) bs

-- the n versions from w up
abbrev pub up_from : ℕ → ℕ → List ℕ
up_from w zero = []
up_from w (suc n) = w ∷ up_from (w + 1) n

-- the floor of a standing, built anew: the map there with the versions of its nodes, and the roots of earlier versions
abbrev pub floor_of : Format → Standing → Standing
floor_of fmt s = floor_standing fmt s.base s.floor (root (map_at s.floor s.nodes) ∷ drop (s.head - s.floor + 1) s.roots) (map_at s.floor s.nodes) (version_at s.floor s.nodes)

-- a standing built anew: each later map is landed on its floor, one after another
abbrev pub rebuilt_standing : Format → Standing → Standing
rebuilt_standing fmt s = built_standing fmt (floor_of fmt s) (map (λ w. map_at w s.nodes) (up_from (s.floor + 1) (s.head - s.floor)))

-- a named node as a name and a value
abbrev pub apart : NamedNode → NodeName × (PlainNode × ℕ)
apart n = (n.0, (n.1, n.2))

-- a name and a value as a named node
abbrev pub as_named : NodeName × (PlainNode × ℕ) → NamedNode
as_named e = (e.0, e.1.0, e.1.1)

-- nodes in the order of their names
abbrev pub nodes_by_name : List NamedNode → List NamedNode
nodes_by_name ns = map as_named (by_name (map apart ns))

-- the checkpoint of a standing
abbrev pub checkpoint_of : ℕ → Standing → Record
checkpoint_of generation s = «record».Checkpoint generation s.base s.floor s.head (reverse s.roots) (nodes_by_name s.nodes)
