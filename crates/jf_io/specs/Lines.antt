-- How bytes are cut into lines: each ends with 0A, and the last one may lack it.
use Rattle.std.specs.Prelude.{ℕ, zero, suc, if◌then◌else◌, ◌==◌, List, [], ◌∷◌, count_by}
use Rattle.std.specs.List.{onto_first, after_first}
use Rattle.jf_io.specs.LineReader.{is_line_feed}

-- the lines of bytes, each of which ends with 0A or with the bytes
unfoldable pub lines : List ℕ → List (List ℕ)
lines [] = []
lines (b ∷ bytes) = if b == 10 then [] ∷ lines bytes else onto_first b (lines bytes)

-- the lines of bytes without 0A: one, or no line if there are no bytes
abbrev pub one_line : List ℕ → List (List ℕ)
one_line [] = []
one_line (b ∷ bytes) = (b ∷ bytes) ∷ []

-- the bytes after the first n lines, with the 0A of each
abbrev pub bytes_after : ℕ → List ℕ → List ℕ
bytes_after zero bytes = bytes
bytes_after (suc n) bytes = bytes_after n (after_first is_line_feed bytes)

-- how many lines end with 0A
abbrev pub whole_lines : List ℕ → ℕ
whole_lines bytes = count_by (λ b. b == 10) bytes
