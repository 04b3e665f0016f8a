-- Entries of a map and of a batch whose keys begin with the same bits.
use Rattle.std.specs.Prelude.{ℕ, Bool}
use Rattle.jf_hash.specs.Maps.{Batch}
use Rattle.jf_hash.specs.Parts.{IsUnder}
use Rattle.jf_hash.specs.Slots.{Part}

-- the entries and the batch have all their keys under one path
pub record AreUnderOnePath (depth : ℕ) (es : Part) (bs : Batch) : Type 0 where
  pub path : ℕ → Bool
  pub entries : IsUnder depth path es
  pub batch : IsUnder depth path bs
