-- Versions stay sound after a landing, a landing taken back and a pruning, and what each of them changes.
use Rattle.std.specs.Prelude.{◌-◌, map, ◌≡◌, ℕ, ◌+◌, List, [], ◌∷◌, slice_index_or, length, ◌++◌, take, drop, ◌<◌, zero, suc, ◌≤◌}
use Rattle.std.proofs.Common.{sym, subst, refl, arith, ap, ◌∙◌}
use Rattle.std.specs.FinMap.{entries}
use Rattle.std.specs.FinMap as fin
use Rattle.std.specs.List.{AllByRecursion}
use Rattle.jf_path.specs.Keys.{IsKey, IsBytes}
use Rattle.jf_path.proofs.ListLaws.{all_take}
use Rattle.jf_hash.specs.Maps.{Map, IsMap, Batch, apply, IsBatch}
use Rattle.jf_hash.specs.Roots.{leaves_root, root, leaf_of}
use Rattle.jf_hash.proofs.RootLaws.{root_below-IsKey, entries-empty}
use Rattle.jf_model.specs.Versions.{IsVersions, new_store, imported_versions, Versions, newest, versions_after_landing, land_all, versions_before_newest, versions_from_floor, map_of, root_of}
use Rattle.jf_model.specs.Batches.{apply_all}
use Rattle.jf_model.proofs.ChangeLaws.{IsMap-apply}

-- ---- roots are hashes
pub root-IsKey : (m : Map) → IsKey (root m)
unfolding root leaves_root
root-IsKey m = root_below-IsKey (256 - 0) 0 (map leaf_of (entries m))

pub empty-IsMap : IsMap fin.empty
empty-IsMap = subst (λ es. AllByRecursion (λ e. IsKey e.0 × IsBytes e.1) es) (sym entries-empty) tt

-- ---- a new store, and one with an imported map
pub new_store-IsVersions : IsVersions new_store
new_store-IsVersions = record { base_first = omega arith; floor_first = omega arith; root_each = refl; map_each = refl; rooted = refl; hashes = (root-IsKey fin.empty, tt); sound = (empty-IsMap, tt) }

same_one : (n : ℕ) → 1 ≡ n - n + 1
same_one n = omega arith

pub imported-IsVersions : (version : ℕ) (m : Map) → IsMap m → IsVersions (imported_versions version m)
imported-IsVersions version m sound = record {
  base_first = omega arith;
  floor_first = omega arith;
  root_each = same_one version;
  map_each = same_one version;
  rooted = refl;
  hashes = (root-IsKey m, tt);
  sound = (sound, tt);
}

-- ---- the maps of versions
pub place-IsMap : (i : ℕ) (ms : List Map) → AllByRecursion IsMap ms → IsMap (slice_index_or ms i fin.empty)
place-IsMap i [] all = empty-IsMap
place-IsMap zero (m ∷ ms) all = all.0
place-IsMap (suc i) (m ∷ ms) all = place-IsMap i ms all.1

pub newest-IsMap : (v : Versions) → IsVersions v → IsMap (newest v)
newest-IsMap v sound = place-IsMap 0 v.maps sound.sound

-- ---- landings
pub landed_map-IsVersions : (b : Batch) (v : Versions) → IsVersions v → IsMap (apply (newest v) b) → IsVersions (versions_after_landing b v)
landed_map-IsVersions b v sound made = record {
  base_first = sound.base_first;
  floor_first = let low = sound.floor_first in omega arith;
  root_each = let low = sound.floor_first in let first = sound.base_first in let each = sound.root_each in omega arith;
  map_each = let low = sound.floor_first in let each = sound.map_each in omega arith;
  rooted = ap (λ rs. root (apply (newest v) b) ∷ rs) sound.rooted;
  hashes = (root-IsKey (apply (newest v) b), sound.hashes);
  sound = (made, sound.sound);
}

pub landed-IsVersions : (b : Batch) (v : Versions) → IsVersions v → IsBatch b → IsVersions (versions_after_landing b v)
landed-IsVersions b v sound batch = landed_map-IsVersions b v sound (IsMap-apply (newest v) b (newest-IsMap v sound) batch)

pub land_all-IsVersions : (bs : List Batch) (v : Versions) → IsVersions v → AllByRecursion IsBatch bs → IsVersions (land_all bs v)
land_all-IsVersions [] v sound h = sound
land_all-IsVersions (b ∷ bs) v sound h = land_all-IsVersions bs (versions_after_landing b v) (landed-IsVersions b v sound h.0) h.1

pub land_all-head : (bs : List Batch) (v : Versions) → (land_all bs v).head ≡ v.head + length bs
land_all-head [] v = omega arith
land_all-head (b ∷ bs) v = let more = land_all-head bs (versions_after_landing b v) in omega arith

pub land_all-floor : (bs : List Batch) (v : Versions) → (land_all bs v).floor ≡ v.floor
land_all-floor [] v = refl
land_all-floor (b ∷ bs) v = land_all-floor bs (versions_after_landing b v)

pub land_all-base : (bs : List Batch) (v : Versions) → (land_all bs v).base ≡ v.base
land_all-base [] v = refl
land_all-base (b ∷ bs) v = land_all-base bs (versions_after_landing b v)

pub land_all-newest : (bs : List Batch) (v : Versions) → newest (land_all bs v) ≡ apply_all (newest v) bs
land_all-newest [] v = refl
land_all-newest (b ∷ bs) v = land_all-newest bs (versions_after_landing b v)

pub land_all-append : (bs cs : List Batch) (v : Versions) → land_all (bs ++ cs) v ≡ land_all cs (land_all bs v)
land_all-append [] cs v = refl
land_all-append (b ∷ bs) cs v = land_all-append bs cs (versions_after_landing b v)

-- a landing leaves a recorded root as it is, and so do more of them
root_of-landed : (b : Batch) (v : Versions) (w : ℕ) → w ≤ v.head → root_of (versions_after_landing b v) w ≡ root_of v w
root_of-landed b v w low =
    let e : v.head + 1 - w ≡ suc (v.head - w) = omega arith in ap (λ i. slice_index_or (root (apply (newest v) b) ∷ v.roots) i []) e

pub root_of-land_all : (bs : List Batch) (v : Versions) (w : ℕ) → w ≤ v.head → root_of (land_all bs v) w ≡ root_of v w
root_of-land_all [] v w low = refl
root_of-land_all (b ∷ bs) v w low = root_of-land_all bs (versions_after_landing b v) w (omega arith) ∙ root_of-landed b v w low

-- ---- a landing taken back
one_back : (n : ℕ) → n + 1 - 1 ≡ n
one_back n = omega arith

pub unlanded-landed : (b : Batch) (v : Versions) → versions_before_newest (versions_after_landing b v) ≡ v
unlanded-landed b v = ap (λ n. record { base = v.base; floor = v.floor; head = n; roots = v.roots; maps = v.maps }) (one_back v.head)

one_root_less : (rs : List (List ℕ)) (ms : List Map) → take (length ms) rs ≡ map root ms → take (length (drop 1 ms)) (drop 1 rs) ≡ map root (drop 1 ms)
one_root_less rs [] e = refl
one_root_less [] (m ∷ ms) e = absurd (cc)
one_root_less (r ∷ rs) (m ∷ ms) e = ap (λ xs. drop 1 xs) e

all_less : {X : Type 0} (P : X → Type 0) (xs : List X) → AllByRecursion P xs → AllByRecursion P (drop 1 xs)
all_less P [] h = tt
all_less P (x ∷ xs) h = h.1

length-less : {X : Type 0} (xs : List X) → length (drop 1 xs) ≡ length xs - 1
length-less [] = refl
length-less (x ∷ xs) = omega arith

pub unlanded-IsVersions : (v : Versions) → IsVersions v → v.floor < v.head → IsVersions (versions_before_newest v)
unlanded-IsVersions v sound above = record {
  base_first = sound.base_first;
  floor_first = omega arith;
  root_each = let first = sound.base_first in length-less v.roots ∙ (let each = sound.root_each in omega arith);
  map_each = length-less v.maps ∙ (let each = sound.map_each in omega arith);
  rooted = one_root_less v.roots v.maps sound.rooted;
  hashes = all_less IsKey v.roots sound.hashes;
  sound = all_less IsMap v.maps sound.sound;
}

-- ---- prunings
take_roots : (n : ℕ) (rs : List (List ℕ)) (ms : List Map) → take (length ms) rs ≡ map root ms → take (length (take n ms)) rs ≡ map root (take n ms)
take_roots zero rs ms e = refl
take_roots (suc n) rs [] e = refl
take_roots (suc n) [] (m ∷ ms) e = absurd (cc)
take_roots (suc n) (r ∷ rs) (m ∷ ms) e =
    let heads : r ≡ root m = ap (λ xs. slice_index_or xs 0 r) e in
    ap (λ x. x ∷ take (length (take n ms)) rs) heads ∙ ap (λ xs. root m ∷ xs) (take_roots n rs ms (ap (λ xs. drop 1 xs) e))

length-front : {X : Type 0} (n : ℕ) (xs : List X) → n ≤ length xs → length (take n xs) ≡ n
length-front zero xs h = refl
length-front (suc n) [] h = absurd (omega arith)
length-front (suc n) (x ∷ xs) h = ap suc (length-front n xs (omega arith))

pub pruned-IsVersions : (floor : ℕ) (v : Versions) → IsVersions v → v.floor ≤ floor → floor ≤ v.head → IsVersions (versions_from_floor floor v)
pruned-IsVersions floor v sound low high = record {
  base_first = let first = sound.base_first in omega arith;
  floor_first = high;
  root_each = sound.root_each;
  map_each = length-front (v.head - floor + 1) v.maps (let each = sound.map_each in omega arith);
  rooted = take_roots (v.head - floor + 1) v.roots v.maps sound.rooted;
  hashes = sound.hashes;
  sound = all_take IsMap (v.head - floor + 1) v.maps sound.sound;
}

-- ---- each root is that of its map
root-at : (i : ℕ) (rs : List (List ℕ)) (ms : List Map) → take (length ms) rs ≡ map root ms → i < length ms → slice_index_or rs i [] ≡ root (slice_index_or ms i fin.empty)
root-at i rs [] e lt = absurd (omega arith)
root-at i [] (m ∷ ms) e lt = absurd (cc)
root-at zero (r ∷ rs) (m ∷ ms) e lt = ap (λ xs. slice_index_or xs 0 r) e
root-at (suc i) (r ∷ rs) (m ∷ ms) e lt = root-at i rs ms (ap (λ xs. drop 1 xs) e) (omega arith)

pub root_of-map_of : (v : Versions) (w : ℕ) → IsVersions v → v.floor ≤ w → w ≤ v.head → root_of v w ≡ root (map_of v w)
root_of-map_of v w sound low high = root-at (v.head - w) v.roots v.maps sound.rooted (let each = sound.map_each in omega arith)

pub map_of-head : (v : Versions) → map_of v v.head ≡ newest v
map_of-head v = let none : v.head - v.head ≡ 0 = omega arith in ap (λ i. slice_index_or v.maps i fin.empty) none

pub root_of-head : (v : Versions) → IsVersions v → root_of v v.head ≡ root (newest v)
root_of-head v sound = root_of-map_of v v.head sound sound.floor_first (omega arith) ∙ ap root (map_of-head v)
