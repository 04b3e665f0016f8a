-- The entries of a plain map, in the order of their keys.
use Rattle.std.specs.Prelude.{ℕ, ◌≤◌, T, List, length, ◌≡◌, ◌<◌, Option, Some, None, MatchOption, slice_index_or}
use Rattle.std.specs.FinMap.{is_sorted, find, entries}
use Rattle.std.specs.List.{AllByRecursion}
use Rattle.std.specs.declared.cmp.Ordering.TheVariants.{Less}
use Rattle.jf_path.specs.Limits.{max_value}
use Rattle.jf_path.specs.Keys.{key_cmp, IsKey, IsBytes}
use Rattle.jf_hash.specs.Maps.{Map}

-- entries of a plain map: keys that ascend strictly, and values of at most 4,096 bytes
pub record AreMapEntries (es : List (List ℕ × List ℕ)) : Type 0 where
  pub sorted : T (is_sorted key_cmp es)
  pub sound : AllByRecursion (λ e. IsKey e.0 × IsBytes e.1) es
  pub short : AllByRecursion (λ e. length e.1 ≤ max_value) es

-- the place of a key among entries, at which its value stands, or none if no entry has the key
abbrev pub IsPlaceInMap : List ℕ → List (List ℕ × List ℕ) → Option ℕ → Type 0
IsPlaceInMap key es r = MatchOption r (find key_cmp key es ≡ None) (λ i. (i < length es) × ((d : List ℕ × List ℕ) → find key_cmp key es ≡ Some (slice_index_or es i d).1))

-- how many entries at the front have keys below a key
pub record IsCountBelow (key : List ℕ) (es : List (List ℕ × List ℕ)) (i : ℕ) : Type 0 where
  pub within : i ≤ length es
  pub before : (k : ℕ) (d : List ℕ × List ℕ) → k < i → key_cmp (slice_index_or es k d).0 key ≡ Less
  pub next : (d : List ℕ × List ℕ) → i < length es → key_cmp (slice_index_or es i d).0 key ≡ Less → ⊥

-- how many entries at the front have this key: 0 or 1
pub record IsCountAt (key : List ℕ) (es : List (List ℕ × List ℕ)) (n : ℕ) : Type 0 where
  pub one : n ≤ 1
  pub within : n ≤ length es
  pub same : (d : List ℕ × List ℕ) → 0 < n → key ≡ (slice_index_or es 0 d).0
  pub other : (d : List ℕ × List ℕ) → 0 < length es → n ≡ 0 → key ≡ (slice_index_or es 0 d).0 → ⊥

-- each value has at most 4,096 bytes
abbrev pub HasShortValues : Map → Type 0
HasShortValues m = AllByRecursion (λ e. length e.1 ≤ max_value) (entries m)
