-- What a landing writes, as statements for calls that do nothing and ensure them.
use Rattle.std.specs.Prelude.{◌≡◌, map, true, T, ◌+◌, ◌*◌, ◌≤◌, length, ◌↔◌, Contains, ◌⊎◌, []}
use Rattle.std.specs.FinMap.{entries, is_sorted}
use Rattle.std.specs.List.{AllByRecursion}
use Rattle.jf_path.specs.Keys.{key_cmp}
use Rattle.jf_path.specs.Paths.{IsPath}
use Rattle.jf_hash.specs.Maps.{Map, IsMap, Batch, IsBatch, apply}
use Rattle.jf_hash.specs.Slots.{Part}
use Rattle.jf_model.specs.Nodes.{Path, fresh, under, is_node, nodes, stale, is_fresh}
use Rattle.jf_model.specs.Walk.{with_root}

-- the walk over two maps goes to exactly the nodes that a landing of the second over the first writes, in their order
abbrev pub WalkListsFresh : Type 0
WalkListsFresh = (m m' : Map) → with_root (entries m) (entries m') (λ path. path) ≡ map (λ (x : Path × Part). x.0) (fresh m m')

-- each pair is a node of the new map, with all entries under its path
abbrev pub FreshAreNodes : Type 0
FreshAreNodes = (m m' : Map) → AllByRecursion (λ x. (x.1 ≡ under 0 x.0 (entries m')) × (is_node 0 x.0 (entries m') ≡ true)) (fresh m m')

-- the pairs stand in the order of their paths, each once
abbrev pub FreshRises : Type 0
FreshRises = (m m' : Map) → T (is_sorted key_cmp (fresh m m'))

-- each path is one of at most 64 nibbles
abbrev pub FreshHasPaths : Type 0
FreshHasPaths = (m m' : Map) → IsMap m' → AllByRecursion (λ x. IsPath x.0) (fresh m m')

-- a batch of n keys writes at most 66 n + 1 nodes
abbrev pub FreshIsBounded : Type 0
FreshIsBounded = (m : Map) (b : Batch) → IsMap m → IsBatch b → length (fresh m (apply m b)) ≤ 66 * length b + 1

-- the nodes of the new map and those marked stale are as many as the nodes of the old map and those written
abbrev pub FreshAndStale : Type 0
FreshAndStale = (m m' : Map) → length (nodes m') + length (stale m m') ≡ length (nodes m) + length (fresh m m')

-- the nodes of a map are exactly the paths of at most 64 nibbles at which there is a node, each with all entries under it
abbrev pub NodesAreListed : Type 0
NodesAreListed = (m : Map) (path : Path) (part : Part) → Contains (nodes m) (path, part) ↔ (IsPath path × (part ≡ under 0 path (entries m)) × (is_node 0 path (entries m) ≡ true))

-- each node of a map is at a path of at most 64 nibbles
abbrev pub NodesHavePaths : Type 0
NodesHavePaths = (m : Map) (path : Path) → IsMap m → is_node 0 path (entries m) ≡ true → IsPath path

-- what a landing writes are exactly the nodes of the new map that are fresh
abbrev pub FreshAreListed : Type 0
FreshAreListed = (m m' : Map) (path : Path) (part : Part) → Contains (fresh m m') (path, part) ↔ (Contains (nodes m') (path, part) × (is_fresh (entries m) (entries m') path ≡ true))

-- a landing writes the top, and each node of the new map that the old one doesn't have with the same part
abbrev pub FreshIsWhatDiffers : Type 0
FreshIsWhatDiffers = (m m' : Map) (path : Path) (part : Part) → Contains (fresh m m') (path, part) ↔ (Contains (nodes m') (path, part) × ((path ≡ []) ⊎ (¬ (Contains (nodes m) (path, part)))))
