-- Laws of what a format keeps of a standing.
use Rattle.std.specs.Prelude.{◌≡◌, ℕ, List, map}
use Rattle.jf_hash.specs.Maps.{Map, Batch}
use Rattle.jf_codec.specs.declared.format.Format.{Format}
use Rattle.jf_codec.specs.declared.format.Format.TheVariants as format
use Rattle.jf_payload.specs.Counted.{commit_in, nodes_in}
use Rattle.jf_payload.specs.declared.records.Commit.{Commit}
use Rattle.jf_standing.specs.Standing.{Standing, versions_of, with_nodes, with_commit, with_floor}
use Rattle.jf_standing.specs.Sound.{IsSound}
use Rattle.jf_standing.specs.Next.{IsReadStanding}
use Rattle.jf_standing.specs.Landing.{landing_of}
use Rattle.jf_standing.specs.Building.{landings_of, all_landed, rebuilt_standing, nodes_by_name}

-- what a format keeps of a standing with counts: format 1 leaves the counts out
abbrev pub standing_in : Format → Standing → Standing
standing_in fmt s = with_nodes (nodes_in fmt s.nodes) s

-- what a format keeps of a sound standing with counts is sound in that format, with the same versions
abbrev pub FormatsAreSound : Type 0
FormatsAreSound = (fmt : Format) (s : Standing) → IsSound format.Two s → IsSound fmt (standing_in fmt s) × (versions_of (standing_in fmt s) ≡ versions_of s)

-- a landing in a format writes what the format keeps of what it writes with counts
abbrev pub FormatsLand : Type 0
FormatsLand = (fmt : Format) (s : Standing) (m : Map) → landing_of fmt (standing_in fmt s) m ≡ commit_in fmt (landing_of format.Two s m)

-- landings and floors on what a format keeps make what the format keeps of what they make
abbrev pub FormatsFollow : Type 0
FormatsFollow =
    (fmt : Format) (s : Standing) (c : Commit) (floor : ℕ) → (with_commit (commit_in fmt c) (standing_in fmt s) ≡ standing_in fmt (with_commit c s)) × (with_floor floor (standing_in fmt s) ≡ standing_in fmt (with_floor floor s))

-- landings of batches in turn, on what a format keeps, make what the format keeps of what they make
abbrev pub FormatsGroup : Type 0
FormatsGroup =
    (fmt : Format) (s : Standing) (bs : List Batch) → (landings_of fmt (standing_in fmt s) bs ≡ map (commit_in fmt) (landings_of format.Two s bs)) × (all_landed fmt (standing_in fmt s) bs ≡ standing_in fmt (all_landed format.Two s bs))

-- a standing with counts: its nodes, built anew in format 2
abbrev pub with_counts : Standing → Standing
with_counts s = with_nodes (nodes_by_name (rebuilt_standing format.Two s).nodes) s

-- a sound standing that was read is what its format keeps of it with counts, and with counts it is sound as well
abbrev pub FormatsAreKept : Type 0
FormatsAreKept = (fmt : Format) (s : Standing) → IsReadStanding s → IsSound fmt s → (standing_in fmt (with_counts s) ≡ s) × IsReadStanding (with_counts s) × IsSound format.Two (with_counts s)
