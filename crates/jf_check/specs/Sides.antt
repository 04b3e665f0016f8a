-- What the bytes of one file show by themselves.
use Rattle.std.specs.Prelude.{ℕ, ◌+◌, ◌-◌, if◌then◌else◌, List, length, Option, Some, None, Result, Ok, Err}
use Rattle.jf_frame.specs.Framed.{LogRecord}
use Rattle.jf_frame.specs.Framing.{records, end_of}
use Rattle.jf_pair.specs.Files.{is_begun}
use Rattle.jf_check.specs.declared.numbers.SideNumbers.{SideNumbers}
use Rattle.jf_check.specs.declared.side_check.SideCheck.{SideCheck}
use Rattle.jf_check.specs.declared.side_check.SideCheck.TheVariants as side_check
use Rattle.jf_check.specs.Numbers.{numbers_in}

-- what a file of so many bytes shows, by its records or the offset of an open gate that isn't followed by a record: its
-- records end at a closed gate, and bytes after that mean nothing. A first record that begins no side is damage at 0
abbrev pub log_check : ℕ → Result (List LogRecord) ℕ → SideCheck
log_check size (Err at) = side_check.Damaged size at
log_check size (Ok rs) = if is_begun rs then side_check.Whole size (numbers_in rs) (end_of rs) (size - (end_of rs + 1)) else side_check.Damaged size 0

-- what a file shows, if it is there
abbrev pub side_shown : Option (List ℕ) → SideCheck
side_shown None = side_check.Absent
side_shown (Some bytes) = log_check (length bytes) (records bytes)

-- the numbers that a file shows
abbrev pub numbers_shown : SideCheck → Option SideNumbers
numbers_shown side_check.Absent = None
numbers_shown (side_check.Damaged size at) = None
numbers_shown (side_check.Whole size numbers rs behind) = numbers
