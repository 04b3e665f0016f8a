-- A part falls into its halves, and so does the part after a batch.
use Rattle.std.proofs.Common.{ℕ, ◌<◌, ◌≤◌, Bool, List, length, ◌+◌, false, cond, ◌==◌, true, ◌≡◌, ◌++◌, sym, ap₂, ◌∙◌, subst, take, drop}
use Rattle.jf_hash.specs.Parts.{IsUnder, HaveBit, IsFirstOne}
use Rattle.jf_hash.specs.Maps.{Batch}
use Rattle.jf_hash.specs.Roots.{zeros, ones}
use Rattle.jf_hash.specs.Slots.{Part}
use Rattle.jf_hash.proofs.Split.{deeper, IsPart-under, IsUnder-zeros, IsUnder-ones, zeros-append-ones, HaveBit-zeros, HaveBit-ones, zeros_ones}
use Rattle.jf_model.specs.Changes.{entries_after_batch}
use Rattle.jf_spec.specs.Parts.{AreUnderOnePath}
use Rattle.jf_spec.proofs.Applied.{zeros-applied, ones-applied, IsUnder-applied}

-- a part with two entries or more has a bit below its depth
pub deeper_under : {X : Type 0} (d : ℕ) (path : ℕ → Bool) (es : List (List ℕ × X)) → IsUnder d path es → 2 ≤ length es → d < 256
deeper_under d path es h two = deeper d es (IsPart-under d path es h) two

-- the halves of a part and a batch are parts
pub AreUnderOnePath-zeros : (d : ℕ) (es : Part) (bs : Batch) → AreUnderOnePath d es bs → AreUnderOnePath (d + 1) (zeros d es) (zeros d bs)
AreUnderOnePath-zeros d es bs h = record { path = λ i. cond (i == d) false (h.path i); entries = IsUnder-zeros d h.path es h.entries; batch = IsUnder-zeros d h.path bs h.batch }

pub AreUnderOnePath-ones : (d : ℕ) (es : Part) (bs : Batch) → AreUnderOnePath d es bs → AreUnderOnePath (d + 1) (ones d es) (ones d bs)
AreUnderOnePath-ones d es bs h = record { path = λ i. cond (i == d) true (h.path i); entries = IsUnder-ones d h.path es h.entries; batch = IsUnder-ones d h.path bs h.batch }

-- a part after a batch is its halves after the batch's halves
pub applied-halves : (d : ℕ) (es : Part) (bs : Batch) → AreUnderOnePath d es bs → entries_after_batch (zeros d es) (zeros d bs) ++ entries_after_batch (ones d es) (ones d bs) ≡ entries_after_batch es bs
applied-halves d es bs h =
    ap₂ (λ a b. a ++ b) (sym (zeros-applied d es bs h.entries.sorted)) (sym (ones-applied d es bs h.entries.sorted))
    ∙ zeros-append-ones d (entries_after_batch es bs) (IsPart-under d h.path (entries_after_batch es bs) (IsUnder-applied d h.path es bs h.entries h.batch))

-- the half of 0 bits, after a batch, has that bit
pub HaveBit-applied_zeros : (d : ℕ) (es : Part) (bs : Batch) → AreUnderOnePath d es bs → HaveBit d false (entries_after_batch (zeros d es) (zeros d bs))
HaveBit-applied_zeros d es bs h = subst (HaveBit d false) (zeros-applied d es bs h.entries.sorted) (HaveBit-zeros d (entries_after_batch es bs))

pub HaveBit-applied_ones : (d : ℕ) (es : Part) (bs : Batch) → AreUnderOnePath d es bs → HaveBit d true (entries_after_batch (ones d es) (ones d bs))
HaveBit-applied_ones d es bs h = subst (HaveBit d true) (ones-applied d es bs h.entries.sorted) (HaveBit-ones d (entries_after_batch es bs))

-- the halves of a batch, by the place of the first entry with bit 1
pub batch_halves : (d p : ℕ) (es : Part) (bs : Batch) → AreUnderOnePath d es bs → IsFirstOne d p bs → (zeros d bs ≡ take p bs) × (ones d bs ≡ drop p bs)
batch_halves d p es bs h f = zeros_ones d p bs (IsPart-under d h.path bs h.batch) f
