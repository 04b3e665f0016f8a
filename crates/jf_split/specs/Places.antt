-- The place of a key among the entries of a batch, or the gap in which it would stand.
use Rattle.std.specs.Prelude.{◌≡◌, ℕ, ◌<◌, ◌≤◌, List, length, slice_index_or, Option}
use Rattle.std.specs.declared.cmp.Ordering.TheVariants.{Less, Greater}
use Rattle.jf_path.specs.Keys.{key_cmp}
use Rattle.jf_hash.specs.Maps.{Batch}

-- i is the place of the key: the entry there has it
pub record IsPlaceOf (key : List ℕ) (b : Batch) (i : ℕ) : Type 0 where
  pub within : i < length b
  pub same : (e : List ℕ × Option (List ℕ)) → (slice_index_or b i e).0 ≡ key

-- i is the gap for the key: the keys before it are less, and those from there on are greater
pub record IsGapFor (key : List ℕ) (b : Batch) (i : ℕ) : Type 0 where
  pub within : i ≤ length b
  pub before : (k : ℕ) (e : List ℕ × Option (List ℕ)) → k < i → key_cmp (slice_index_or b k e).0 key ≡ Less
  pub behind : (k : ℕ) (e : List ℕ × Option (List ℕ)) → i ≤ k → k < length b → key_cmp (slice_index_or b k e).0 key ≡ Greater
