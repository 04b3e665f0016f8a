-- Laws of landings and checkpoints as records that have a spelling.
use Rattle.std.specs.Prelude.{◌≡◌, ℕ, ◌+◌, ◌-◌, ◌<◌, ◌≤◌, ◌^◌, List, length}
use Rattle.std.specs.List.{AllByRecursion}
use Rattle.std.specs.FinMap.{entries, len}
use Rattle.jf_path.specs.Limits.{max_value}
use Rattle.jf_path.specs.Keys.{IsKey}
use Rattle.jf_hash.specs.Maps.{Map, IsMap}
use Rattle.jf_codec.specs.declared.format.Format.{Format}
use Rattle.jf_codec.specs.declared.format.Format.TheVariants as format
use Rattle.jf_payload.specs.Spelling.{IsCommit, IsRecord}
use Rattle.jf_payload.specs.Counted.{commit_in}
use Rattle.jf_standing.specs.Named.{not_stale, leaf_entries, AreEntries, map_at}
use Rattle.jf_standing.specs.Standing.{Standing}
use Rattle.jf_standing.specs.Sound.{IsSound}
use Rattle.jf_standing.specs.Landing.{landing_of}
use Rattle.jf_standing.specs.Building.{checkpoint_of}

-- a landing is a record with a spelling, if values have at most 4,096 bytes and its lists fewer than 2^64 items
abbrev pub LandingsAreSpelled : Type 0
LandingsAreSpelled =
    (fmt : Format) (s : Standing) (m : Map) → AreEntries (leaf_entries s.nodes) → IsMap m → AllByRecursion (λ (e : List ℕ × List ℕ). length e.1 ≤ max_value) (entries m) → len m ≤ 2 ^ 63 → s.head + 1 < not_stale
    → length (landing_of fmt s m).fresh < 2 ^ 64 → length (landing_of fmt s m).stale < 2 ^ 64 → IsCommit fmt (landing_of fmt s m)

-- what a format keeps of a landing with counts is the landing in that format
abbrev pub LandingsAreKept : Type 0
LandingsAreKept = (fmt : Format) (s : Standing) (m : Map) → commit_in fmt (landing_of format.Two s m) ≡ landing_of fmt s m

-- the checkpoint of a sound standing is a record with a spelling, if its values and numbers are in bounds
abbrev pub CheckpointsAreSpelled : Type 0
CheckpointsAreSpelled =
    (fmt : Format) (generation : ℕ) (s : Standing) → IsSound fmt s → AreEntries (leaf_entries s.nodes)
    → ((w : ℕ) → s.floor ≤ w → w ≤ s.head → AllByRecursion (λ (e : List ℕ × List ℕ). length e.1 ≤ max_value) (entries (map_at w s.nodes)))
    → 1 ≤ generation → generation ≤ 2 ^ 64 - 2 → AllByRecursion IsKey s.roots → length s.nodes < 2 ^ 64 → IsRecord fmt (checkpoint_of generation s)
