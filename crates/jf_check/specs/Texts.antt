-- The lines that tell what two files show (docs/FORMATS.md, "Checking files").
use Rattle.std.specs.Prelude.{ℕ, List, [], ◌∷◌, ◌++◌, codes, decimal, Option, Some, None}
use Rattle.jf_disk.specs.declared.side.Side.{Side}
use Rattle.jf_disk.specs.declared.side.Side.TheVariants as side
use Rattle.jf_text.specs.Words.{line_text}
use Rattle.jf_check.specs.declared.numbers.SideNumbers.{SideNumbers}
use Rattle.jf_check.specs.declared.side_check.SideCheck.{SideCheck}
use Rattle.jf_check.specs.declared.side_check.SideCheck.TheVariants as side_check
use Rattle.jf_check.specs.declared.store_check.StoreCheck.{StoreCheck}
use Rattle.jf_check.specs.declared.store_check.StoreCheck.TheVariants as store_check
use Rattle.jf_check.specs.declared.check.Check.{Check}

-- the name of a side's file
abbrev pub file_word : Side → List ℕ
file_word side.A = codes "a.jf"
file_word side.B = codes "b.jf"

-- the live side, by its letter
abbrev pub live_word : Option Side → List ℕ
live_word None = codes "none"
live_word (Some side.A) = codes "a"
live_word (Some side.B) = codes "b"

-- the words of the numbers, if there are any
abbrev pub number_words : Option SideNumbers → List (List ℕ)
number_words None = []
number_words (Some n) = codes "generation" ∷ decimal n.generation ∷ codes "base" ∷ decimal n.base ∷ codes "floor" ∷ decimal n.floor ∷ codes "head" ∷ decimal n.head ∷ []

-- the words of what a file shows
abbrev pub shown_words : SideCheck → List (List ℕ)
shown_words side_check.Absent = codes "absent" ∷ []
shown_words (side_check.Damaged size at) = codes "size" ∷ decimal size ∷ codes "damaged" ∷ decimal at ∷ []
shown_words (side_check.Whole size numbers records behind) = codes "size" ∷ decimal size ∷ number_words numbers ++ codes "records" ∷ decimal records ∷ codes "behind" ∷ decimal behind ∷ []

-- the words of what both files represent
abbrev pub store_words : StoreCheck → List (List ℕ)
store_words (store_check.Damaged where_ at) = codes "damaged" ∷ live_word (Some where_) ∷ decimal at ∷ []
store_words (store_check.Sound live kept checkpoint) = codes "live" ∷ live_word live ∷ codes "kept" ∷ decimal kept ∷ codes "checkpoint" ∷ decimal checkpoint ∷ []

-- a line for each file, and one for both
unfoldable pub check_text : Check → List ℕ
check_text c = (line_text (file_word side.A ∷ shown_words c.a) ++ line_text (file_word side.B ∷ shown_words c.b)) ++ line_text (store_words c.store)
