-- A sound standing: its nodes are those of maps, one map for each version, each landed on the map before.
use Rattle.std.specs.Prelude.{◌≡◌, ◌⊎◌, ℕ, ◌+◌, ◌-◌, ◌<◌, ◌≤◌, ◌^◌, Bool, true, false, cond, IsTrue, List, [], ◌∷◌, ◌++◌, map, length, count_by, slice_index_or}
use Rattle.std.specs.List.{AllByRecursion, IsDistinct}
use Rattle.std.specs.FinMap.{entries, len}
use Rattle.jf_hash.specs.Maps.{same_key}
use Rattle.jf_hash.specs.Roots.{root}
use Rattle.jf_model.specs.Nodes.{Path, under, is_node, is_fresh, plain_node}
use Rattle.jf_codec.specs.declared.format.Format.{Format}
use Rattle.jf_codec.specs.declared.format.Format.TheVariants as format
use Rattle.jf_standing.specs.Named.{NamedNode, not_stale, is_alive, is_at, alive_nodes_at, written_nodes_at, stale_nodes_at, version_at, leaf_entries, map_at}
use Rattle.jf_standing.specs.Standing.{Standing}

-- whether internal nodes hold the counts of their children
abbrev pub is_counted : Format → Bool
is_counted format.One = false
is_counted format.Two = true

-- exactly one node stands at each path that passes the test, and no node elsewhere
abbrev pub StandAt : (Path → Bool) → List NamedNode → Type 0
StandAt test ns = (p : Path) → count_by (is_at p) ns ≡ cond (test p) 1 0

-- a node is the one that the map at w has at its path, with the versions of the nodes alive at w
abbrev pub IsNodeOf : Format → ℕ → List NamedNode → NamedNode → Type 0
IsNodeOf fmt w ns n = n.1 ≡ plain_node (is_counted fmt) (λ i. version_at w ns (n.0.path ++ i ∷ [])) (length n.0.path) (under 0 n.0.path (entries (map_at w ns)))

-- the nodes alive at w are those of a map of at most 2^63 entries, which has the recorded root; no two leaves have one key
pub record IsVersion (fmt : Format) (ns : List NamedNode) (w : ℕ) (recorded : List ℕ) : Type 0 where
  pub one_leaf : IsDistinct same_key (map (λ e. e.0) (leaf_entries (alive_nodes_at w ns)))
  pub nodes : AllByRecursion (IsNodeOf fmt w ns) (alive_nodes_at w ns)
  pub rooted : recorded ≡ root (map_at w ns)
  pub room : len (map_at w ns) ≤ 2 ^ 63

-- the nodes written at w are those that a landing on the map before writes; those that went stale at w were alive, and are those that it makes stale
pub record IsStep (ns : List NamedNode) (w : ℕ) : Type 0 where
  pub fresh : StandAt (is_fresh (entries (map_at (w - 1) ns)) (entries (map_at w ns))) (written_nodes_at w ns)
  pub stale : StandAt (is_fresh (entries (map_at w ns)) (entries (map_at (w - 1) ns))) (stale_nodes_at w ns)
  pub stood : AllByRecursion (λ n. IsTrue (is_alive (w - 1) n)) (stale_nodes_at w ns)

-- the numbers are in order, with a root for each version from the base on; the nodes alive at the floor are those of a map,
-- and each later version is a landing on the one before
pub record IsSound (fmt : Format) (s : Standing) : Type 0 where
  pub base_low : s.base ≤ s.floor
  pub floor_low : s.floor ≤ s.head
  pub head_last : s.head < not_stale
  pub root_each : length s.roots ≡ s.head - s.base + 1
  pub floor_nodes : StandAt (λ p. is_node 0 p (entries (map_at s.floor s.nodes))) (alive_nodes_at s.floor s.nodes)
  pub floor_root : version_at s.floor s.nodes [] ≡ s.floor
  pub versions : (w : ℕ) → s.floor ≤ w → w ≤ s.head → IsVersion fmt s.nodes w (slice_index_or s.roots (s.head - w) [])
  pub steps : (w : ℕ) → s.floor < w → w ≤ s.head → IsStep s.nodes w
  pub written : AllByRecursion (λ n. n.0.version ≤ s.head) s.nodes
  pub gone : AllByRecursion (λ n. (n.2 ≡ not_stale) ⊎ ((s.floor < n.2) × (n.2 ≤ s.head))) s.nodes
