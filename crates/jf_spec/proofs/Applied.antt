-- Applying a batch to entries whose keys begin with the same bits.
use Rattle.std.proofs.Common.{◌≡◌, ℕ, not, T, ◌<◌, Bool}
use Rattle.std.specs.FinMap.{is_sorted}
use Rattle.jf_path.specs.Keys.{bit, key_cmp, IsKey}
use Rattle.jf_hash.specs.Maps.{Batch}
use Rattle.jf_hash.specs.Roots.{zeros, ones}
use Rattle.jf_hash.specs.Slots.{Part}
use Rattle.jf_hash.specs.Parts.{IsUnder}
use Rattle.jf_model.specs.Changes.{entries_after_batch}
use Rattle.jf_model.proofs.ChangeLaws.{filter-applied, sorted-applied, all_keys-applied}

-- after a batch, each half of the entries is that half after the batch's changes in it
pub zeros-applied : (d : ℕ) (es : Part) (bs : Batch) → T (is_sorted key_cmp es) → zeros d (entries_after_batch es bs) ≡ entries_after_batch (zeros d es) (zeros d bs)
zeros-applied d es bs sorted = filter-applied (λ k. not (bit k d)) es bs sorted

pub ones-applied : (d : ℕ) (es : Part) (bs : Batch) → T (is_sorted key_cmp es) → ones d (entries_after_batch es bs) ≡ entries_after_batch (ones d es) (ones d bs)
ones-applied d es bs sorted = filter-applied (λ k. bit k d) es bs sorted

-- entries stay under their path after a batch
pub IsUnder-applied : (d : ℕ) (path : ℕ → Bool) (es : Part) (bs : Batch) → IsUnder d path es → IsUnder d path bs → IsUnder d path (entries_after_batch es bs)
IsUnder-applied d path es bs p q = record {
  sorted = sorted-applied es bs p.sorted;
  keys = all_keys-applied IsKey es bs p.keys q.keys;
  agree = all_keys-applied (λ k. (i : ℕ) → i < d → bit k i ≡ path i) es bs p.agree q.agree;
}
