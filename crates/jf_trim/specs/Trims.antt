-- The effect of trimming on two files: the side that isn't live is cut to its closed gate; what they represent stays.
use Rattle.std.specs.Prelude.{◌≡◌, ◌⊎◌, ℕ, ◌+◌, List, [], ◌∷◌, length, if◌then◌else◌, ◌==◌}
use Rattle.jf_model.specs.Versions.{Versions}
use Rattle.jf_disk.specs.Disk.{DiskState, Files, History, IsImage, bytes_of, reads}
use Rattle.jf_disk.specs.Crashes.{GoesOn, LeavesFiles, LeavesNow, opposite}
use Rattle.jf_disk.specs.declared.side.Side.{Side}
use Rattle.jf_frame.specs.Framed.{LogRecord}
use Rattle.jf_frame.specs.Framing.{records}
use Rattle.jf_pair.specs.Files.{HoldsLive, live_side}
use Rattle.jf_pair.specs.Pairs.{Pair, IsInStep}
use Rattle.jf_files.specs.Files.{StandsFor, generation, records_of_side}
use Rattle.jf_trim.specs.declared.trimmed.Trimmed.{Trimmed}

-- the side of two files that isn't live; side A if neither side holds a record
abbrev pub spare_side : Files → Side
spare_side files = opposite (live_side (records_of_side (records files.a)) (records_of_side (records files.b)))

-- a side cut down to its first gate, which is closed; a side of at most one byte is short already, and stays
abbrev pub trimmed_side : List ℕ → List ℕ
trimmed_side [] = []
trimmed_side (gate ∷ []) = gate ∷ []
trimmed_side (gate ∷ next ∷ rest) = (if gate == 1 then 0 else gate) ∷ []

-- both sides are synced, the other side holds the records `rs`, and this side holds none that count
abbrev pub IsSpareIn : Side → List LogRecord → DiskState → Type 0
IsSpareIn w rs s = (p : Pair) × (w ≡ opposite p.side) × IsInStep p rs s

-- the side that isn't live was trimmed, and gave back so many bytes: if that is none, nothing was changed. A crash leaves what a read gives
pub record HasTrimmed (t : Trimmed) (old new : History) : Type 0 where
  pub sound : (rs : List LogRecord) × HoldsLive (reads old) rs
  pub side : t.side ≡ spare_side (reads old)
  pub cut : bytes_of t.side (reads new) ≡ trimmed_side (bytes_of t.side (reads old))
  pub given : t.bytes + length (bytes_of t.side (reads new)) ≡ length (bytes_of t.side (reads old))
  pub nothing : t.bytes ≡ 0 → LeavesFiles old new
  pub leaves : LeavesNow new (λ f. f ≡ reads new)

-- the files still represent the same in their generation; the live side has its bytes; a crash in the calls leaves what it
-- could have left before, or files that represent the same
pub record KeepsStore (old new : History) : Type 0 where
  pub stands : (v : Versions) → StandsFor (reads old) v → StandsFor (reads new) v
  pub generation_is : generation (reads new) ≡ generation (reads old)
  pub live : bytes_of (opposite (spare_side (reads old))) (reads new) ≡ bytes_of (opposite (spare_side (reads old))) (reads old)
  pub images : (v : Versions) → StandsFor (reads old) v → GoesOn old new (λ f. IsImage old.now f ⊎ StandsFor f v)
