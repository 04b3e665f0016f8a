-- The versions of a store, as its files hold them.
use Rattle.std.specs.Prelude.{◌≡◌, ℕ, ◌+◌, ◌-◌, ◌≤◌, List, [], ◌∷◌, map, take, drop, length, slice_index_or}
use Rattle.std.specs.List.{AllByRecursion}
use Rattle.std.specs.FinMap as fin
use Rattle.jf_path.specs.Keys.{IsKey}
use Rattle.jf_hash.specs.Maps.{Map, Batch, apply, IsMap}
use Rattle.jf_hash.specs.Roots.{root}

-- the roots from the head down to the base, and the maps from the head down to the floor
pub record Versions : Type 0 where
  pub base : ℕ
  pub floor : ℕ
  pub head : ℕ
  pub roots : List (List ℕ)
  pub maps : List Map

-- a root for each version from base to head, a map for each from floor to head, whose root it has
pub record IsVersions (v : Versions) : Type 0 where
  pub base_first : v.base ≤ v.floor
  pub floor_first : v.floor ≤ v.head
  pub root_each : length v.roots ≡ v.head - v.base + 1
  pub map_each : length v.maps ≡ v.head - v.floor + 1
  pub rooted : take (length v.maps) v.roots ≡ map root v.maps
  pub hashes : AllByRecursion IsKey v.roots
  pub sound : AllByRecursion IsMap v.maps

-- version 0 with the empty map
abbrev pub new_store : Versions
new_store = record { base = 0; floor = 0; head = 0; roots = root fin.empty ∷ []; maps = fin.empty ∷ [] }

-- the map of the head
abbrev pub newest : Versions → Map
newest v = slice_index_or v.maps 0 fin.empty

-- the map of a version from floor to head
abbrev pub map_of : Versions → ℕ → Map
map_of v w = slice_index_or v.maps (v.head - w) fin.empty

-- the root of a version from base to head
abbrev pub root_of : Versions → ℕ → List ℕ
root_of v w = slice_index_or v.roots (v.head - w) []

-- one more version: the head's map after a batch
abbrev pub versions_after_landing : Batch → Versions → Versions
versions_after_landing b v =
    let m = apply (newest v) b in
    record { base = v.base; floor = v.floor; head = v.head + 1; roots = root m ∷ v.roots; maps = m ∷ v.maps }

-- the versions without the newest one
abbrev pub versions_before_newest : Versions → Versions
versions_before_newest v = record { base = v.base; floor = v.floor; head = v.head - 1; roots = drop 1 v.roots; maps = drop 1 v.maps }

-- one more version for each batch, in turn
abbrev pub land_all : List Batch → Versions → Versions
land_all [] v = v
land_all (b ∷ bs) v = land_all bs (versions_after_landing b v)

-- the versions from a later floor on
abbrev pub versions_from_floor : ℕ → Versions → Versions
versions_from_floor floor v = record { base = v.base; floor = floor; head = v.head; roots = v.roots; maps = take (v.head - floor + 1) v.maps }

-- a single version, with one map
abbrev pub imported_versions : ℕ → Map → Versions
imported_versions version m = record { base = version; floor = version; head = version; roots = root m ∷ []; maps = m ∷ [] }
