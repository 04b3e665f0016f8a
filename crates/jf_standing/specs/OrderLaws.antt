-- Laws of the order of nodes, of checkpoints, and of standings built from maps.
use Rattle.std.specs.Prelude.{◌≡◌, List, ℕ, ◌↔◌, ◌≤◌, ◌^◌, [], true, Contains, ◌+◌, ◌<◌, length}
use Rattle.std.specs.FinMap.{len, entries}
use Rattle.std.specs.List.{AllByRecursion}
use Rattle.std.specs.List.Sorted.{IsPermutation}
use Rattle.jf_path.specs.Limits.{max_value}
use Rattle.jf_path.specs.Names.{IsName}
use Rattle.jf_hash.specs.Maps.{Map, IsMap}
use Rattle.jf_model.specs.Nodes.{Path, is_node, kept_nodes}
use Rattle.jf_model.specs.Versions.{imported_versions, new_store}
use Rattle.jf_codec.specs.declared.format.Format.{Format}
use Rattle.jf_codec.specs.Spelling.{IsNode}
use Rattle.jf_standing.specs.Named.{NamedNode, version_at, map_at, not_stale, leaf_entries, AreEntries}
use Rattle.jf_standing.specs.Standing.{Standing, versions_of, with_nodes}
use Rattle.jf_standing.specs.Sound.{IsSound}
use Rattle.jf_standing.specs.Taking.{GivesStanding}
use Rattle.jf_standing.specs.Building.{nodes_by_name, checkpoint_of, rebuilt_standing, built_standing, imported_standing, new_standing}
use Rattle.jf_standing.specs.Next.{IsReadStanding}

-- what nodes represent does not depend on their order
abbrev pub OrderIsFree : Type 0
OrderIsFree = (fmt : Format) (s : Standing) (ns : List NamedNode) → IsSound fmt s → IsPermutation s.nodes ns → IsSound fmt (with_nodes ns s) × (versions_of (with_nodes ns s) ≡ versions_of s)

-- the checkpoint of a sound standing gives the same nodes in the order of their names, and the same versions
abbrev pub CheckpointsGive : Type 0
CheckpointsGive =
    (fmt : Format) (generation : ℕ) (s : Standing) → IsSound fmt s
    → GivesStanding fmt (checkpoint_of generation s) (with_nodes (nodes_by_name s.nodes) s) × IsPermutation s.nodes (nodes_by_name s.nodes) × (versions_of (with_nodes (nodes_by_name s.nodes) s) ≡ versions_of s)

-- nodes in order are sound exactly if they equal what is built anew from the maps and versions that are read off them
abbrev pub CheckpointsAreDecided : Type 0
CheckpointsAreDecided =
    (fmt : Format) (s : Standing) → IsReadStanding s
    → IsSound fmt s ↔ ((version_at s.floor s.nodes [] ≡ s.floor) × ((w : ℕ) → s.floor ≤ w → w ≤ s.head → len (map_at w s.nodes) ≤ 2 ^ 63) × ((rebuilt_standing fmt s).roots ≡ s.roots) × (nodes_by_name (rebuilt_standing fmt s).nodes ≡ s.nodes))

-- a sound standing follows from its maps and the versions of the nodes at its floor
abbrev pub OneStanding : Type 0
OneStanding =
    (fmt : Format) (s t : Standing) → IsSound fmt s → IsSound fmt t → t.floor ≡ s.floor → t.head ≡ s.head
    → ((w : ℕ) → s.floor ≤ w → w ≤ s.head → map_at w t.nodes ≡ map_at w s.nodes)
    → ((p : Path) → is_node 0 p (entries (map_at s.floor s.nodes)) ≡ true → version_at s.floor t.nodes p ≡ version_at s.floor s.nodes p)
    → (n : NamedNode) → Contains s.nodes n → Contains t.nodes n

-- maps landed in turn on a sound standing leave a sound standing
abbrev pub BuiltIsSound : Type 0
BuiltIsSound =
    (fmt : Format) (s : Standing) (ms : List Map) → IsSound fmt s → IsMap (map_at s.head s.nodes) → AllByRecursion (λ m. IsMap m × (len m ≤ 2 ^ 63)) ms → s.head + length ms < not_stale
    → IsSound fmt (built_standing fmt s ms) × ((built_standing fmt s ms).base ≡ s.base) × ((built_standing fmt s ms).floor ≡ s.floor) × ((built_standing fmt s ms).head ≡ s.head + length ms)

-- one map whose nodes are all of one version is sound, and represents that version alone
abbrev pub ImportsAreSound : Type 0
ImportsAreSound = (fmt : Format) (version : ℕ) (m : Map) → IsMap m → len m ≤ 2 ^ 63 → version < not_stale → IsSound fmt (imported_standing fmt version m) × (versions_of (imported_standing fmt version m) ≡ imported_versions version m)

-- a new store is sound, and represents version 0 without an entry
abbrev pub NewIsSound : Type 0
NewIsSound = (fmt : Format) → IsSound fmt (new_standing fmt) × (versions_of (new_standing fmt) ≡ new_store)

-- each node of a sound standing has a spelling, if values have at most 4,096 bytes
abbrev pub NodesAreValid : Type 0
NodesAreValid =
    (fmt : Format) (s : Standing) → IsSound fmt s → AreEntries (leaf_entries s.nodes)
    → ((w : ℕ) → s.floor ≤ w → w ≤ s.head → AllByRecursion (λ (e : List ℕ × List ℕ). length e.1 ≤ max_value) (entries (map_at w s.nodes)))
    → AllByRecursion (λ n. IsName n.0 × IsNode fmt n.1 × (n.2 < 2 ^ 64)) s.nodes

-- a sound standing has as many nodes as its versions keep
abbrev pub NodesAreKept : Type 0
NodesAreKept = (fmt : Format) (s : Standing) → IsReadStanding s → IsSound fmt s → length s.nodes ≡ kept_nodes (versions_of s)
