-- Laws of standings: which nodes stand in a sound one, and the effect of landings and floors on it.
use Rattle.std.specs.Prelude.{ℕ, ◌≤◌, ◌≡◌, ◌+◌, ◌<◌, ◌^◌, ◌↔◌, List, length, IsTrue, map, true, if◌then◌else◌, [], ◌∷◌, ◌++◌, false}
use Rattle.std.specs.FinMap.{entries, len}
use Rattle.std.specs.List.{AllByRecursion}
use Rattle.std.specs.List.Sorted.{IsPermutation}
use Rattle.jf_path.specs.Keys.{IsKey}
use Rattle.jf_path.specs.Limits.{max_value}
use Rattle.jf_path.specs.Names.{IsName, are_rising}
use Rattle.jf_path.specs.declared.name.NodeName.{NodeName}
use Rattle.jf_hash.specs.Maps.{Map, IsMap, apply, IsBatch, Batch}
use Rattle.jf_hash.specs.Slots.{Part}
use Rattle.jf_model.specs.Nodes.{is_node, Path, is_fresh, plain_node, fresh, stale}
use Rattle.jf_model.specs.Versions.{IsVersions, versions_after_landing, versions_from_floor, land_all}
use Rattle.jf_model.specs.Batches.{key_count}
use Rattle.jf_codec.specs.declared.format.Format.{Format}
use Rattle.jf_codec.specs.Spelling.{IsNode}
use Rattle.jf_codec.specs.Counted.{uncounted_node}
use Rattle.jf_payload.specs.declared.records.Commit.{Commit}
use Rattle.jf_standing.specs.Named.{alive_nodes_at, map_at, leaf_entries, AreEntries, not_stale, version_at}
use Rattle.jf_standing.specs.Standing.{Standing, versions_of, with_commit, with_floor}
use Rattle.jf_standing.specs.Sound.{StandAt, IsNodeOf, IsSound, is_counted}
use Rattle.jf_standing.specs.Taking.{Continues, TakesCommits}
use Rattle.jf_standing.specs.Landing.{landing_of, fresh_leaves, IsInOrder, head_map, batch_of}
use Rattle.jf_standing.specs.Building.{landed_on, landings_of, all_landed}
use Rattle.jf_standing.specs.Next.{IsReadCommit}

-- at each version from floor to head the nodes that are alive stand at exactly the paths of the nodes of the map, and are these
abbrev pub NodesStand : Type 0
NodesStand =
    (fmt : Format) (s : Standing) (w : ℕ) → IsSound fmt s → s.floor ≤ w → w ≤ s.head
    → StandAt (λ p. is_node 0 p (entries (map_at w s.nodes))) (alive_nodes_at w s.nodes) × AllByRecursion (IsNodeOf fmt w s.nodes) (alive_nodes_at w s.nodes)

-- the versions of a sound standing are sound
abbrev pub VersionsAreSound : Type 0
VersionsAreSound = (fmt : Format) (s : Standing) → IsSound fmt s → AreEntries (leaf_entries s.nodes) → AllByRecursion IsKey s.roots → IsVersions (versions_of s)

-- a landing of a map continues from the head of a sound standing and leaves a sound one, whose newest map is that map
abbrev pub LandingsAreSound : Type 0
LandingsAreSound =
    (fmt : Format) (s : Standing) (m : Map) → IsSound fmt s → AreEntries (leaf_entries s.nodes) → IsMap m → len m ≤ 2 ^ 63 → s.head + 1 < not_stale
    → Continues s (landing_of fmt s m) × IsSound fmt (with_commit (landing_of fmt s m) s) × (map_at (s.head + 1) (with_commit (landing_of fmt s m) s).nodes ≡ m)

-- a landing that continues from the head and leaves a sound standing is a landing of that standing's newest map
abbrev pub SoundIsLanding : Type 0
SoundIsLanding =
    (fmt : Format) (s : Standing) (c : Commit) → IsSound fmt s → AreEntries (leaf_entries s.nodes) → AreEntries (fresh_leaves c) → IsInOrder c → Continues s c → IsSound fmt (with_commit c s)
    → c ≡ landing_of fmt s (map_at c.version (with_commit c s).nodes)

-- a landing that was read leaves a sound standing exactly if it is a landing of the batch that is read off it
abbrev pub LandingsAreDecided : Type 0
LandingsAreDecided =
    (fmt : Format) (s : Standing) (c : Commit) → IsSound fmt s → AreEntries (leaf_entries s.nodes) → AreEntries (fresh_leaves c) → IsInOrder c
    → (Continues s c × IsSound fmt (with_commit c s)) ↔ ((s.head + 1 < not_stale) × (len (apply (head_map s) (batch_of s c)) ≤ 2 ^ 63) × (c ≡ landing_of fmt s (apply (head_map s) (batch_of s c))))

-- what is read off a landing is a batch
abbrev pub ReadIsBatch : Type 0
ReadIsBatch = (s : Standing) (c : Commit) → AreEntries (leaf_entries s.nodes) → AreEntries (fresh_leaves c) → IsBatch (batch_of s c)

-- a landing that leaves a sound standing makes the next version, by the batch that is read off it
abbrev pub LandingsLand : Type 0
LandingsLand = (fmt : Format) (s : Standing) (c : Commit) → IsSound fmt s → Continues s c → IsSound fmt (with_commit c s) → versions_of (with_commit c s) ≡ versions_after_landing (batch_of s c) (versions_of s)

-- a later floor leaves a sound standing, with the versions from it on
abbrev pub FloorsPrune : Type 0
FloorsPrune = (fmt : Format) (s : Standing) (floor : ℕ) → IsSound fmt s → s.floor ≤ floor → floor ≤ s.head → IsSound fmt (with_floor floor s) × (versions_of (with_floor floor s) ≡ versions_from_floor floor (versions_of s))

-- a landing of a batch leaves a sound standing, with one more version by that batch
abbrev pub BatchesLand : Type 0
BatchesLand =
    (fmt : Format) (s : Standing) (b : Batch) → IsSound fmt s → AreEntries (leaf_entries s.nodes) → IsBatch b → len (apply (head_map s) b) ≤ 2 ^ 63 → s.head + 1 < not_stale
    → Continues s (landing_of fmt s (apply (head_map s) b)) × IsSound fmt (landed_on fmt (apply (head_map s) b) s) × (versions_of (landed_on fmt (apply (head_map s) b) s) ≡ versions_after_landing b (versions_of s))

-- landings of batches in turn are taken, and make a version for each
abbrev pub GroupsLand : Type 0
GroupsLand =
    (fmt : Format) (s : Standing) (bs : List Batch) → IsSound fmt s → AreEntries (leaf_entries s.nodes) → AllByRecursion IsBatch bs → len (head_map s) + key_count bs ≤ 2 ^ 63 → s.head + length bs < not_stale
    → TakesCommits fmt s (landings_of fmt s bs) (all_landed fmt s bs) × IsSound fmt (all_landed fmt s bs) × (versions_of (all_landed fmt s bs) ≡ land_all bs (versions_of s))

-- the names that a landing writes and marks stale rise, its keys have 32 bytes, and its values are bytes
abbrev pub LandingsAreRead : Type 0
LandingsAreRead = (fmt : Format) (s : Standing) (m : Map) → IsMap m → IsReadCommit (landing_of fmt s m)

-- all that a landing writes has a spelling, if values have at most 4,096 bytes
abbrev pub LandingsAreValid : Type 0
LandingsAreValid =
    (fmt : Format) (s : Standing) (m : Map) → AreEntries (leaf_entries s.nodes) → IsMap m → AllByRecursion (λ (e : List ℕ × List ℕ). length e.1 ≤ max_value) (entries m) → len m ≤ 2 ^ 63 → s.head + 1 < not_stale
    → AllByRecursion (λ x. IsName x.0 × IsNode fmt x.1) (landing_of fmt s m).fresh × AllByRecursion IsName (landing_of fmt s m).stale × IsKey (landing_of fmt s m).root

-- names that rise still rise after a landing and under a later floor
abbrev pub NamesRise : Type 0
NamesRise =
    (fmt : Format) (s : Standing) (c : Commit) (floor : ℕ) → IsSound fmt s → IsTrue (are_rising (map (λ n. n.0) s.nodes)) → Continues s c → IsInOrder c
    → IsTrue (are_rising (map (λ n. n.0) (with_commit c s).nodes)) × IsTrue (are_rising (map (λ n. n.0) (with_floor floor s).nodes))

-- a batch adds at most as many entries as it has changes
abbrev pub RoomIsLeft : Type 0
RoomIsLeft = (m : Map) (b : Batch) → len (apply m b) ≤ len m + length b

-- the nodes made with the versions of a snapshot of the new map are those of the landing, if the old snapshot has the versions
-- of the head's nodes, and each node that is not fresh keeps its version
abbrev pub UpdatesAreLandings : Type 0
UpdatesAreLandings =
    (fmt : Format) (s : Standing) (m : Map) (before after : Path → ℕ)
    → ((p : Path) → is_node 0 p (entries (head_map s)) ≡ true → before p ≡ version_at s.head s.nodes p)
    → ((p : Path) → is_node 0 p (entries m) ≡ true → after p ≡ (if is_fresh (entries (head_map s)) (entries m) p then s.head + 1 else before p))
    → map (λ (x : Path × Part). (record { version = s.head + 1; path = x.0 }, plain_node (is_counted fmt) (λ i. after (x.0 ++ i ∷ [])) (length x.0) x.1)) (fresh (head_map s) m) ≡ (landing_of fmt s m).fresh

-- the names of the nodes that are stale by the versions of the snapshots, in order, are those of the landing
abbrev pub StaleNamesAreLandings : Type 0
StaleNamesAreLandings =
    (fmt : Format) (s : Standing) (m : Map) (before : Path → ℕ) (names : List NodeName)
    → ((p : Path) → is_node 0 p (entries (head_map s)) ≡ true → before p ≡ version_at s.head s.nodes p)
    → IsPermutation (map (λ (x : Path × Part). record { version = before x.0; path = x.0 }) (stale (head_map s) m)) names → IsTrue (are_rising names) → names ≡ (landing_of fmt s m).stale

-- a node without counts is the node with counts, from which the counts are left out
abbrev pub CountsAreExtra : Type 0
CountsAreExtra = (version : ℕ → ℕ) (d : ℕ) (es : Part) → plain_node false version d es ≡ uncounted_node (plain_node true version d es)
