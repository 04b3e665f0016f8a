-- The script of a seed, a number of batches and their size (docs/FORMATS.md, Generated scripts).
use Rattle.std.specs.Prelude.{ℕ, zero, suc, ◌+◌, ◌-◌, ◌*◌, ◌/◌, ◌%◌, ◌^◌, Bool, if◌then◌else◌, ◌==◌, List, [], ◌∷◌, ◌++◌, codes, decimal}
use Rattle.hex.specs.Hex.{encode_lower}
use Rattle.jf_path.specs.Numbers.{two_bytes, eight_bytes}

-- the most batches
abbrev pub max_batches : ℕ
max_batches = 1000

-- the most puts and deletes of a batch
abbrev pub max_size : ℕ
max_size = 10000

-- the most lines of a script: 1,000 batches of 10,000 numbers and three more lines at most, and two lines at its end
abbrev pub max_lines : ℕ
max_lines = 10003002

-- ---- numbers

-- the number that is drawn after this one
unfoldable pub next_drawn : ℕ → ℕ
next_drawn x = (x * 6364136223846793005 + 1442695040888963407) % 2 ^ 64

-- the last of n numbers that are drawn after this one, and this one if n is 0
unfoldable pub drawn_after : ℕ → ℕ → ℕ
drawn_after zero x = x
drawn_after (suc n) x = drawn_after n (next_drawn x)

-- ---- the line of a number

-- whether the line of a number is a `del`
abbrev pub deletes : ℕ → Bool
deletes x = (x / 2 ^ 40) % 8 == 0

-- the name of a number: its highest two bytes, in hexadecimal
abbrev pub drawn_name : ℕ → List ℕ
drawn_name x = encode_lower (two_bytes (x / 2 ^ 48))

-- the line of a number: `del` and its name, or `put`, its name and its eight bytes
unfoldable pub drawn_line : ℕ → List ℕ
drawn_line x = if deletes x then codes "del " ++ drawn_name x else codes "put " ++ (drawn_name x ++ (codes " =" ++ encode_lower (eight_bytes x)))

-- the lines of n numbers that are drawn after this one
unfoldable pub drawn_lines : ℕ → ℕ → List (List ℕ)
drawn_lines zero x = []
drawn_lines (suc n) x = drawn_line (next_drawn x) ∷ drawn_lines n (next_drawn x)

-- ---- batches

-- the `prune` after the commit of a batch, if its number is a multiple of 10
abbrev pub prune_lines : ℕ → List (List ℕ)
prune_lines b = if b % 10 == 0 then (codes "prune " ++ decimal (b - 5)) ∷ [] else []

-- the `compact` at the end of a batch, if its number is a multiple of 25
abbrev pub compact_lines : ℕ → List (List ℕ)
compact_lines b = if b % 25 == 0 then codes "compact" ∷ [] else []

-- the lines of a batch after its puts and deletes, and these after them
abbrev pub batch_end : ℕ → List (List ℕ) → List (List ℕ)
batch_end b later = codes "commit" ∷ (prune_lines b ++ (compact_lines b ++ later))

-- the lines of this many batches, the first of which has the number b, and then the end of the script
unfoldable pub generated_from : ℕ → ℕ → ℕ → ℕ → List (List ℕ)
generated_from zero b size x = codes "root head" ∷ codes "status" ∷ []
generated_from (suc batches) b size x = drawn_lines size x ++ batch_end b (generated_from batches (b + 1) size (drawn_after size x))

-- the lines of a script, without their line feeds
abbrev pub lines_of_script : ℕ → ℕ → ℕ → List (List ℕ)
lines_of_script seed batches size = generated_from batches 1 size seed
