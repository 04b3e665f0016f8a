-- Parts: entries of a map or of a batch whose keys begin with one path, and how they fall apart by nibble.
use Rattle.std.specs.Prelude.{◌≡◌, ℕ, ◌<◌, List, T, ◌≤◌, length, slice_index_or}
use Rattle.std.specs.FinMap.{is_sorted}
use Rattle.std.specs.List.{AllByRecursion}
use Rattle.jf_path.specs.Keys.{key_cmp, IsKey}
use Rattle.jf_path.specs.Nibbles.{nibble}

-- entries whose keys ascend strictly and have the first `depth` nibbles of a path
pub record IsPartUnder {X : Type 0} (depth : ℕ) (path : ℕ → ℕ) (es : List (List ℕ × X)) : Type 0 where
  pub sorted : T (is_sorted key_cmp es)
  pub keys : AllByRecursion (λ e. IsKey e.0) es
  pub agree : AllByRecursion (λ e. (i : ℕ) → i < depth → nibble e.0 i ≡ path i) es

-- the first r entries have nibble n at a depth, and the next one, if any, has another
pub record IsPieceEnd {X : Type 0} (depth n r : ℕ) (es : List (List ℕ × X)) : Type 0 where
  pub within : r ≤ length es
  pub before : (k : ℕ) (x : List ℕ × X) → k < r → nibble (slice_index_or es k x).0 depth ≡ n
  pub at : (x : List ℕ × X) → r < length es → ¬ (nibble (slice_index_or es r x).0 depth ≡ n)
