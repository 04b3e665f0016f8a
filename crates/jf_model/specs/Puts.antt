-- The entries that a batch puts, and where a key stands in the batch.
use Rattle.std.specs.Prelude.{ℕ, List, Option, [], ◌∷◌, ◌≡◌, ◌<◌, ◌≤◌, length, slice_index_or, Bool, true, false}
use Rattle.std.specs.declared.cmp.Ordering.TheVariants.{Less}
use Rattle.jf_path.specs.Keys.{key_cmp}
use Rattle.jf_hash.specs.Maps.{Batch}
use Rattle.jf_hash.specs.Slots.{Part}
use Rattle.jf_model.specs.Changes.{with_put}

-- a batch's change of one key: a value, or a removal
abbrev pub Change : Type 0
Change = List ℕ × Option (List ℕ)

-- the entries that a batch puts
abbrev pub puts : Batch → Part
puts [] = []
puts (b ∷ bs) = with_put b.0 b.1 (puts bs)

-- the batch has r keys below the key, and the next one, if any, is not below it
pub record IsPlace (key : List ℕ) (bs : Batch) (r : ℕ) : Type 0 where
  pub within : r ≤ length bs
  pub before : (k : ℕ) (x : Change) → k < r → key_cmp (slice_index_or bs k x).0 key ≡ Less
  pub at : (x : Change) → r < length bs → ¬ (key_cmp (slice_index_or bs r x).0 key ≡ Less)

-- whether the first change of a batch is on the key
abbrev pub IsFirstKey : List ℕ → Batch → Bool → Type 0
IsFirstKey key [] b = b ≡ false
IsFirstKey key (c ∷ cs) b = (b ≡ true → c.0 ≡ key) × (b ≡ false → ¬ (c.0 ≡ key))
