-- What two files hold: records on each side. Those of the live side count, which has the greater generation.
use Rattle.std.specs.Prelude.{◌≡◌, ◌⊎◌, ℕ, ◌<◌, Bool, true, false, ◌&&◌, ◌||◌, if◌then◌else◌, ◌==◌, nat_le, nat_lt, List, [], ◌∷◌, length, Option, Some, None, Result, Ok, Err}
use Rattle.jf_disk.specs.Disk.{Files}
use Rattle.jf_disk.specs.declared.side.Side.{Side}
use Rattle.jf_disk.specs.declared.side.Side.TheVariants as side
use Rattle.jf_frame.specs.Framed.{LogRecord}
use Rattle.jf_frame.specs.Framing.{records, number_of}

-- the kinds of a checkpoint: 4 with nodes of the first format, 5 with nodes of the second
abbrev pub is_checkpoint : ℕ → Bool
is_checkpoint kind = kind == 4 || kind == 5

-- there is no record, or the first one is a checkpoint whose payload has at least 8 bytes
abbrev pub is_begun : List LogRecord → Bool
is_begun [] = true
is_begun (r ∷ rs) = is_checkpoint r.kind && nat_le 8 (length r.payload)

-- the generation: the number in the first eight bytes of the first payload; 0 without a record
abbrev pub generation_of : List LogRecord → ℕ
generation_of [] = 0
generation_of (r ∷ rs) = number_of r.payload

-- both sides hold records and have one generation
abbrev pub are_level : List LogRecord → List LogRecord → Bool
are_level [] right = false
are_level (a ∷ left) [] = false
are_level (a ∷ left) (b ∷ right) = generation_of (a ∷ left) == generation_of (b ∷ right)

-- the side with records, and of two such sides the one with the greater generation; B if neither has records, so that
-- the first checkpoint goes to A
abbrev pub live_side : List LogRecord → List LogRecord → Side
live_side [] right = side.B
live_side (a ∷ left) [] = side.A
live_side (a ∷ left) (b ∷ right) = if nat_lt (generation_of (b ∷ right)) (generation_of (a ∷ left)) then side.A else side.B

-- of both sides' records, those of one side
abbrev pub records_of : Side → List LogRecord → List LogRecord → List LogRecord
records_of side.A left right = left
records_of side.B left right = right

-- the records of the live side
abbrev pub live_records : List LogRecord → List LogRecord → List LogRecord
live_records left right = records_of (live_side left right) left right

-- two files hold these live records: each side's gates and lengths are whole, each begins with a checkpoint or holds no
-- record, and their generations differ
pub record HoldsLive (files : Files) (rs : List LogRecord) : Type 0 where
  pub a_records : List LogRecord
  pub b_records : List LogRecord
  pub a_held : records files.a ≡ Ok a_records
  pub b_held : records files.b ≡ Ok b_records
  pub a_begun : is_begun a_records ≡ true
  pub b_begun : is_begun b_records ≡ true
  pub apart : are_level a_records b_records ≡ false
  pub live : live_records a_records b_records ≡ rs

-- the first place of damage that shows without reading past a payload's generation, in this order: side A's gates and
-- lengths, side B's; side A's first record, side B's; two sides of one generation
abbrev pub damage_in : Result (List LogRecord) ℕ → Result (List LogRecord) ℕ → Option (Side × ℕ)
damage_in (Err at) right = Some (side.A, at)
damage_in (Ok left) (Err at) = Some (side.B, at)
damage_in (Ok left) (Ok right) =
    if is_begun left
    then (if is_begun right
    then (if are_level left right then Some (side.B, 0) else None)
    else Some (side.B, 0))
    else Some (side.A, 0)

-- the first place of damage of two files
abbrev pub outer_damage : Files → Option (Side × ℕ)
outer_damage files = damage_in (records files.a) (records files.b)

-- the other side holds no record, or has a lesser generation
abbrev pub IsOlder : List LogRecord → List LogRecord → Type 0
IsOlder others rs = (others ≡ []) ⊎ (generation_of others < generation_of rs)
