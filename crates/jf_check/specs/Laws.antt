-- Laws of what files show.
use Rattle.std.specs.Prelude.{◌≡◌, ℕ, ◌+◌, ◌<◌, List, length, Option, Some}
use Rattle.jf_disk.specs.Disk.{Files, bytes_of}
use Rattle.jf_disk.specs.declared.side.Side.{Side}
use Rattle.jf_model.specs.Versions.{Versions}
use Rattle.jf_files.specs.Files.{StandsFor, generation}
use Rattle.jf_check.specs.declared.numbers.SideNumbers.{SideNumbers}
use Rattle.jf_check.specs.declared.side_check.SideCheck.TheVariants as side_check
use Rattle.jf_check.specs.declared.check.Check.{Check}
use Rattle.jf_check.specs.Sides.{side_shown, numbers_shown}
use Rattle.jf_check.specs.Stores.{live_found, IsCheck}

-- the live file of files that represent versions shows the numbers of these versions, and the files' generation
abbrev pub LiveNumbersAreTheVersions : Type 0
LiveNumbersAreTheVersions =
    (files : Files) (v : Versions) (where_ : Side) → StandsFor files v → live_found files ≡ Some where_
    → numbers_shown (side_shown (Some (bytes_of where_ files))) ≡ Some (record { generation = generation files; base = v.base; floor = v.floor; head = v.head })

-- a file that has a record is its records, the closed gate after them, and the bytes behind that gate
abbrev pub SizesAddUp : Type 0
SizesAddUp =
    (bytes : List ℕ) (size : ℕ) (numbers : Option SideNumbers) (records behind : ℕ) → side_shown (Some bytes) ≡ side_check.Whole size numbers records behind
    → (size ≡ length bytes) × (0 < records → size ≡ records + 1 + behind)

-- two files show one thing: what is said of them follows from their bytes
abbrev pub FilesShowOneThing : Type 0
FilesShowOneThing = (a b : Option (List ℕ)) (c d : Check) → IsCheck a b c → IsCheck a b d → c ≡ d
