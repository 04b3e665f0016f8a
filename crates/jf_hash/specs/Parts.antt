-- The part of a map whose keys agree in their first bits.
use Rattle.std.specs.Prelude.{◌≡◌, ℕ, ◌<◌, ◌≤◌, Bool, true, false, List, length, slice_index_or, T}
use Rattle.std.specs.List.{AllByRecursion}
use Rattle.std.specs.FinMap.{is_sorted}
use Rattle.jf_path.specs.Keys.{bit, key_cmp, IsKey}

-- a part of a map: entries whose keys rise strictly and agree in their first d bits
pub record IsPart {X : Type 0} (d : ℕ) (es : List (List ℕ × X)) : Type 0 where
  pub sorted : T (is_sorted key_cmp es)
  pub keys : AllByRecursion (λ e. IsKey e.0) es
  pub path : ℕ → Bool
  pub agree : AllByRecursion (λ e. (i : ℕ) → i < d → bit e.0 i ≡ path i) es

-- the part under a path: entries whose keys rise strictly and begin with the path's first d bits
pub record IsUnder {X : Type 0} (d : ℕ) (path : ℕ → Bool) (es : List (List ℕ × X)) : Type 0 where
  pub sorted : T (is_sorted key_cmp es)
  pub keys : AllByRecursion (λ e. IsKey e.0) es
  pub agree : AllByRecursion (λ e. (i : ℕ) → i < d → bit e.0 i ≡ path i) es

-- each key has this value at bit d
abbrev pub HaveBit : {X : Type 0} → ℕ → Bool → List (List ℕ × X) → Type 0
HaveBit d b es = AllByRecursion (λ e. bit e.0 d ≡ b) es

-- p is the place of the first entry whose bit d is 1, or the number of entries if there is none
pub record IsFirstOne {X : Type 0} (d p : ℕ) (es : List (List ℕ × X)) : Type 0 where
  pub within : p ≤ length es
  pub before : (k : ℕ) (x : List ℕ × X) → k < p → bit (slice_index_or es k x).0 d ≡ false
  pub at : (x : List ℕ × X) → p < length es → bit (slice_index_or es p x).0 d ≡ true
