-- The standing of a directory, and what is asked of an update that it takes.
use Rattle.std.specs.Prelude.{◌≡◌, ◌+◌, ◌<◌, ℕ, true, List, ◌∷◌, reverse}
use Rattle.std.specs.FinMap.{entries}
use Rattle.jf_hash.specs.Maps.{Map}
use Rattle.jf_hash.specs.Roots.{root}
use Rattle.jf_model.specs.Nodes.{Path, is_node}
use Rattle.jf_codec.specs.declared.format.Format.TheVariants as format
use Rattle.jf_payload.specs.declared.records.Commit.{Commit}
use Rattle.jf_node.specs.SnapshotValue.{SnapshotValue}
use Rattle.jf_node.specs.declared.update.Update.{Update}
use Rattle.jf_diff.specs.Landings.{version_in}
use Rattle.jf_standing.specs.Named.{not_stale, map_at, version_at}
use Rattle.jf_standing.specs.Standing.{Standing, with_nodes}
use Rattle.jf_standing.specs.Landing.{landing_of, version_after}
use Rattle.jf_standing.specs.Building.{floor_standing, nodes_by_name}

-- u is what the landing of the map m on the head of s writes: its root, fresh nodes and stale names, and the snapshot of
-- m as the next version, which is below the greatest number
pub record IsLandingUpdate (s : Standing) (m : Map) (u : Update) : Type 0 where
  pub last : s.head + 1 < not_stale
  pub map : u.snapshot.map ≡ m
  pub version : u.snapshot.version ≡ s.head + 1
  pub root : u.root ≡ root m
  pub fresh : u.fresh ≡ (landing_of format.Two s m).fresh
  pub stale : u.stale ≡ (landing_of format.Two s m).stale
  pub versions : (p : Path) → is_node 0 p (entries m) ≡ true → version_in u.snapshot p ≡ version_after s m p

-- what the landing of an update writes, as a commit
abbrev pub landing_written : Update → Commit
landing_written u = record { version = u.snapshot.version; root = u.root; fresh = u.fresh; stale = u.stale }

-- x is the snapshot of s at the version w: the map there, and the version of each of its nodes
pub record IsSnapshotAt (s : Standing) (w : ℕ) (x : SnapshotValue) : Type 0 where
  pub version : x.version ≡ w
  pub map : x.map ≡ map_at w s.nodes
  pub versions : (p : Path) → is_node 0 p (entries (map_at w s.nodes)) ≡ true → version_in x p ≡ version_at w s.nodes p

-- a standing in the order of the names of its nodes
abbrev pub standing_by_name : Standing → Standing
standing_by_name s = with_nodes (nodes_by_name s.nodes) s

-- the standing with the one version of a snapshot; the roots of the versions before it are `earlier`, the oldest first
abbrev pub snapshot_standing : ℕ → List (List ℕ) → SnapshotValue → Standing
snapshot_standing base earlier x = standing_by_name (floor_standing format.Two base x.version (root x.map ∷ reverse earlier) x.map (version_in x))
