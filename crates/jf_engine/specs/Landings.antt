-- Landings in memory, one after another, as they are taken back: the newest first.
use Rattle.std.specs.Prelude.{◌≡◌, ◌+◌, List, [], ◌∷◌, true}
use Rattle.std.specs.FinMap.{entries}
use Rattle.jf_hash.specs.Maps.{Map, IsMap}
use Rattle.jf_model.specs.Nodes.{Path, is_node}
use Rattle.jf_codec.specs.declared.format.Format.TheVariants as format
use Rattle.jf_payload.specs.declared.records.Commit.{Commit}
use Rattle.jf_node.specs.SnapshotValue.{SnapshotValue}
use Rattle.jf_diff.specs.Landings.{version_in}
use Rattle.jf_standing.specs.Standing.{Standing}
use Rattle.jf_standing.specs.Sound.{IsSound}
use Rattle.jf_standing.specs.Next.{IsReadStanding}
use Rattle.jf_standing.specs.Landing.{landing_of, version_after}
use Rattle.jf_standing.specs.Building.{landed_on}

-- the landings, the newest first, lead from the standing `from` to the standing `to`, each from a sound one
abbrev pub LandsCommits : Standing → List Commit → Standing → Type 0
LandsCommits from [] to = to ≡ from
LandsCommits from (c ∷ cs) to = (s : Standing) × (m : Map) × IsReadStanding s × IsSound format.Two s × IsMap m × (c ≡ landing_of format.Two s m) × (to ≡ landed_on format.Two m s) × LandsCommits from cs s

-- a snapshot of the map m as the version after the head of s: each node that the landing of m doesn't write keeps its version
pub record IsSnapshotAfter (s : Standing) (m : Map) (x : SnapshotValue) : Type 0 where
  pub map : x.map ≡ m
  pub version : x.version ≡ s.head + 1
  pub versions : (p : Path) → is_node 0 p (entries m) ≡ true → version_in x p ≡ version_after s m p
