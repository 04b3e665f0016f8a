-- What changes leave where one leaf stood, or nothing.
use Rattle.std.specs.Prelude.{◌≡◌, ℕ, ◌+◌, ◌<◌, ◌≤◌, [], ◌∷◌, length, take, slice_index_or, IsSome}
use Rattle.jf_path.specs.Limits.{max_value}
use Rattle.jf_hash.specs.Hashes.{V}
use Rattle.jf_hash.specs.Maps.{Batch}
use Rattle.jf_hash.specs.Slots.{Part}
use Rattle.jf_model.specs.Changes.{entries_after_batch}
use Rattle.jf_model.specs.Puts.{Change, puts}
use Rattle.jf_update.specs.declared.remainder.Remainder.{Remainder}
use Rattle.jf_update.specs.declared.remainder.Remainder.TheVariants.{Nothing, Old, Put, Several}

-- the change at place i is the first that puts a value
pub record IsFirstPut (bs : Batch) (i : ℕ) : Type 0 where
  pub within : i < length bs
  pub before : puts (take i bs) ≡ []
  pub value : (c : Change) → IsSome (slice_index_or bs i c).1

-- `kept` is the entry of es, of which there is at most one, unless its key is changed
pub record IsKeptEntry (es : Part) (bs : Batch) (kept : Part) : Type 0 where
  pub alone : puts bs ≡ [] → entries_after_batch es bs ≡ kept
  pub gone : kept ≡ [] → entries_after_batch es bs ≡ puts bs
  pub count : length (entries_after_batch es bs) ≡ length (puts bs) + length kept

-- the entries now, where the entries `own` were
abbrev pub ShowsRemainder : Part → Part → Remainder → Type 0
ShowsRemainder own now Nothing = now ≡ []
ShowsRemainder own now (Old x) = (now ≡ own) × (x.now.entries ≡ own) × (length own ≡ 1)
ShowsRemainder own now (Put key value hash) = (now ≡ (key.now, value.now) ∷ []) × (length value.now ≤ max_value) × (hash.now ≡ V value.now)
ShowsRemainder own now Several = 2 ≤ length now
