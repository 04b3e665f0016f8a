-- Bytes as lines, and where the line at the front of what is held ends.
use Rattle.std.specs.Prelude.{◌≡◌, ℕ, false, ◌==◌, List, [], ◌∷◌, ◌++◌, ◌⊎◌, ◌<◌, length, Option, Some}
use Rattle.std.specs.List.{AllByRecursion, position_or_len}
use Rattle.jf_io.specs.LineReader.{is_line_feed}

-- a line's own bytes: no line feed among them
abbrev pub IsPlain : List ℕ → Type 0
IsPlain l = AllByRecursion (λ b. (b == 10) ≡ false) l

-- the bytes of lines, each with its line feed
abbrev pub text_of_lines : List (List ℕ) → List ℕ
text_of_lines [] = []
text_of_lines (l ∷ ls) = l ++ 10 ∷ text_of_lines ls

-- a line stands at the front of what is held: it ends with a line feed, or the source is at its end
abbrev pub IsLineFound : List ℕ → Option (List ℕ) → Type 0
IsLineFound held source = (position_or_len is_line_feed held < length held) ⊎ ((0 < length held) × ((left : List ℕ) → source ≡ Some left → left ≡ []))
