-- The numbers that the records of a side tell, by the fronts of their payloads (docs/FORMATS.md, "Records of nodes in bytes").
use Rattle.std.specs.Prelude.{ℕ, ◌+◌, ◌-◌, ◌^◌, min, ◌&&◌, ◌==◌, nat_le, nat_lt, if◌then◌else◌, List, [], ◌∷◌, length, drop, Option, Some, None, option_map}
use Rattle.jf_frame.specs.Framed.{LogRecord}
use Rattle.jf_frame.specs.Framing.{number_of}
use Rattle.jf_pair.specs.Files.{is_checkpoint}
use Rattle.jf_check.specs.declared.numbers.SideNumbers.{SideNumbers}

-- the numbers of a checkpoint; none if the record is no checkpoint, or its payload ends before they do
abbrev pub checkpoint_numbers : LogRecord → Option SideNumbers
checkpoint_numbers x =
    if is_checkpoint x.kind && nat_le 32 (length x.payload)
    then Some (record { generation = number_of x.payload; base = number_of (drop 8 x.payload); floor = number_of (drop 16 x.payload); head = number_of (drop 24 x.payload) })
    else None

-- the effect of a record of a kind on the numbers, by the number at its front: for a floor it is the floor, for a landing
-- the head, for several landings how many they are. A head stays at 2^64 - 1
abbrev pub numbers_by : ℕ → ℕ → SideNumbers → SideNumbers
numbers_by kind number n =
    if kind == 2 then record { generation = n.generation; base = n.base; floor = number; head = n.head }
    else if kind == 3 then record { generation = n.generation; base = n.base; floor = n.floor; head = number }
    else if kind == 6 then record { generation = n.generation; base = n.base; floor = n.floor; head = min (n.head + number) (2 ^ 64 - 1) }
    else n

-- the effect of a later record on the numbers; one of fewer than 8 bytes tells none
abbrev pub numbers_after : SideNumbers → LogRecord → SideNumbers
numbers_after n y = if nat_lt (length y.payload) 8 then n else numbers_by y.kind (number_of y.payload) n

-- the effect of later records on the numbers, one after another
abbrev pub numbers_through : SideNumbers → List LogRecord → SideNumbers
numbers_through n [] = n
numbers_through n (y ∷ ys) = numbers_through (numbers_after n y) ys

-- the numbers that records tell: none if there is no record, or the first one tells none
abbrev pub numbers_in : List LogRecord → Option SideNumbers
numbers_in [] = None
numbers_in (x ∷ xs) = option_map (λ n. numbers_through n xs) (checkpoint_numbers x)
