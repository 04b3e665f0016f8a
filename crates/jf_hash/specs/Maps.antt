-- Maps from keys to values, batches of changes, and a map after a batch.
use Rattle.std.specs.Prelude.{ℕ, List, Option, T, IfSome, Some, None, [], ◌∷◌, Bool}
use Rattle.std.specs.FinMap.{FinMap, from_sorted, entries, is_sorted}
use Rattle.std.specs.FinMap as map
use Rattle.std.specs.List.{AllByRecursion}
use Rattle.std.specs.Ordering.{eq_by_cmp}
use Rattle.jf_path.specs.Keys.{key_cmp, IsKey, IsBytes}

-- a map from keys to values
abbrev pub Map : Type 0
Map = FinMap key_cmp (List ℕ)

-- the map of entries that are in the order of their keys
abbrev pub map_of_entries : List (List ℕ × List ℕ) → Map
map_of_entries es = from_sorted es

-- a batch of changes: for each key a value, or None to remove it
abbrev pub Batch : Type 0
Batch = List (List ℕ × Option (List ℕ))

-- a map of the store: each key has 32 bytes, and each value is bytes
abbrev pub IsMap : Map → Type 0
IsMap m = AllByRecursion (λ e. IsKey e.0 × IsBytes e.1) (entries m)

-- a batch of the store: keys of 32 bytes that rise strictly, and values that are bytes
pub record IsBatch (b : Batch) : Type 0 where
  pub sorted : T (is_sorted key_cmp b)
  pub keys : AllByRecursion (λ e. IsKey e.0) b
  pub values : AllByRecursion (λ e. IfSome e.1 IsBytes) b

-- a map after one change: the key has this value, or is removed
abbrev pub change : List ℕ → Option (List ℕ) → Map → Map
change key (Some value) m = map.insert m key value
change key None m = map.remove m key

-- a map after a batch: the batch's keys have the values it gives or are absent, and every other key is as before
unfoldable pub apply : Map → Batch → Map
apply m [] = m
apply m (e ∷ es) = apply (change e.0 e.1 m) es

-- whether two keys are equal
abbrev pub same_key : List ℕ → List ℕ → Bool
same_key = eq_by_cmp key_cmp
