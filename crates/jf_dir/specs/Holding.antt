-- What a directory holds: roots, snapshots and counts, and the standing that they make.
use Rattle.std.specs.Prelude.{◌≡◌, ◌+◌, ◌-◌, ◌≤◌, ℕ, List, [], ◌∷◌, map, reverse, drop, length}
use Rattle.std.specs.List.{AllByRecursion}
use Rattle.std.specs.FinMap.{entries}
use Rattle.jf_path.specs.Limits.{max_value}
use Rattle.jf_hash.specs.Roots.{root}
use Rattle.jf_codec.specs.declared.format.Format.TheVariants as format
use Rattle.jf_node.specs.SnapshotValue.{SnapshotValue}
use Rattle.jf_node.specs.declared.update.Update.{Update}
use Rattle.jf_diff.specs.Landings.{version_in}
use Rattle.jf_standing.specs.Named.{stale_nodes_at}
use Rattle.jf_standing.specs.Standing.{Standing}
use Rattle.jf_standing.specs.Sound.{IsSound}
use Rattle.jf_standing.specs.Landing.{landing_of}
use Rattle.jf_standing.specs.Building.{floor_standing, built_standing, nodes_by_name, up_from}
use Rattle.jf_standing.specs.Next.{IsReadStanding}
use Rattle.jf_dir.specs.Directories.{IsSnapshotAt}

-- the standing of snapshots, the oldest first, with the roots from the base on, the oldest first: the nodes of the first
-- snapshot, on which the map of each later one is landed
unfoldable pub standing_held : ℕ → List (List ℕ) → List SnapshotValue → Standing
standing_held b rs [] = record { base = b; floor = 0; head = 0; roots = reverse rs; nodes = [] }
standing_held b rs (x ∷ xs) = record {
  base = b;
  floor = x.version;
  head = x.version + length xs;
  roots = reverse rs;
  nodes = nodes_by_name (built_standing format.Two (floor_standing format.Two b x.version (root x.map ∷ drop (length xs + 1) (reverse rs)) x.map (version_in x)) (map (λ y. y.map) xs)).nodes;
}

-- the snapshots xs are those of s at the versions from w on
abbrev pub AreSnapshotsFrom : Standing → ℕ → List SnapshotValue → Type 0
AreSnapshotsFrom s w [] = Unit {0}
AreSnapshotsFrom s w (x ∷ xs) = IsSnapshotAt s w x × AreSnapshotsFrom s (w + 1) xs

-- of each version after the floor, the number of nodes that went stale there, the oldest version first
abbrev pub stale_counts : Standing → List ℕ
stale_counts s = map (λ w. length (stale_nodes_at w s.nodes)) (up_from (s.floor + 1) (s.head - s.floor))

-- the values of a snapshot have at most 4,096 bytes
abbrev pub IsShortSnapshot : SnapshotValue → Type 0
IsShortSnapshot x = AllByRecursion (λ e. length e.1 ≤ max_value) (entries x.map)

-- a base b, roots rs, snapshots xs, counts cs of stale nodes and a number n of nodes hold the standing s, which is sound
pub record IsStandingHeld (s : Standing) (b : ℕ) (rs : List (List ℕ)) (xs : List SnapshotValue) (cs : List ℕ) (n : ℕ) : Type 0 where
  pub read : IsReadStanding s
  pub sound : IsSound format.Two s
  pub base : s.base ≡ b
  pub rooted : s.roots ≡ reverse rs
  pub long : s.head + 1 ≡ s.floor + length xs
  pub snapshots : AreSnapshotsFrom s s.floor xs
  pub short : AllByRecursion IsShortSnapshot xs
  pub stale : cs ≡ stale_counts s
  pub count : n ≡ length s.nodes

-- ---- a landing
-- the update whose snapshot is x: what the landing of its map on s writes and marks stale
abbrev pub landing_update : Standing → SnapshotValue → Update
landing_update s x = record { root = root x.map; fresh = (landing_of format.Two s x.map).fresh; stale = (landing_of format.Two s x.map).stale; snapshot = x }
