-- What a mode does, whatever its numbers: one row a mode.
use Rattle.std.specs.Prelude.{ℕ, Bool, true, false, IsTrue, IfSome, Option, Some, None}
use Rattle.jf_words.specs.declared.modes.Mode.{Mode}
use Rattle.jf_words.specs.declared.modes.Mode.TheVariants as mode

-- how the input is read: not at all, in pieces as the mode goes on, or to its end, or to a limit, before anything is written
pub data Reading : Type 0 where
  NoInput : Reading
  InPieces : Reading
  ToItsEnd : Reading

-- how the store is changed: not at all, by entries, by one import, or in its files alone, trimmed and representing the same
pub data Changes : Type 0 where
  NoChange : Changes
  ByEntries : Changes
  ByImport : Changes
  ByTrimming : Changes

-- whether the store is opened; whether calls are made on the disk, as they are to open it; how the input is read and the store is changed;
-- and the number of workers, in a mode that takes the option
pub record Shape : Type 0 where
  pub opens : Bool
  pub calls : Bool
  pub reading : Reading
  pub changes : Changes
  pub workers : Option ℕ

-- the shape of a mode
abbrev pub shape_of : Mode → Shape
shape_of (mode.Run n) = record { opens = true; calls = true; reading = InPieces; changes = ByEntries; workers = Some n }
shape_of (mode.Resume version root n) = record { opens = true; calls = true; reading = InPieces; changes = ByEntries; workers = Some n }
shape_of (mode.Serve n) = record { opens = true; calls = true; reading = ToItsEnd; changes = ByEntries; workers = Some n }
shape_of (mode.Lead n) = record { opens = true; calls = true; reading = InPieces; changes = ByEntries; workers = Some n }
shape_of (mode.Follow n) = record { opens = true; calls = true; reading = ToItsEnd; changes = ByEntries; workers = Some n }
shape_of mode.Verify = record { opens = false; calls = false; reading = InPieces; changes = NoChange; workers = None }
shape_of (mode.Generate seed batches size n) = record { opens = true; calls = true; reading = NoInput; changes = ByEntries; workers = Some n }
shape_of (mode.Restore version root n) = record { opens = true; calls = true; reading = InPieces; changes = ByImport; workers = Some n }
shape_of mode.Trim = record { opens = true; calls = true; reading = NoInput; changes = ByTrimming; workers = None }
shape_of mode.Check = record { opens = false; calls = true; reading = NoInput; changes = NoChange; workers = None }
shape_of (mode.History version) = record { opens = true; calls = true; reading = NoInput; changes = NoChange; workers = None }
shape_of (mode.Many version) = record { opens = true; calls = true; reading = ToItsEnd; changes = NoChange; workers = None }
shape_of (mode.Judge root name) = record { opens = false; calls = false; reading = ToItsEnd; changes = NoChange; workers = None }

-- the shape of what words ask for, which is nothing if the program doesn't take them
abbrev pub asked_shape : Option Mode → Shape
asked_shape None = record { opens = false; calls = false; reading = NoInput; changes = NoChange; workers = None }
asked_shape (Some m) = shape_of m

-- nothing is done without a store: the mode opens it, or there is no mode
abbrev pub IsIdleWithoutStore : Option Mode → Type 0
IsIdleWithoutStore asks = IfSome asks (λ m. IsTrue (shape_of m).opens)
