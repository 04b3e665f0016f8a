-- How far an input was read, in lines.
use Rattle.std.specs.Prelude.{◌≡◌, ℕ, ◌≤◌, if◌then◌else◌, ◌==◌, List, take, length}
use Rattle.jf_io.specs.Lines.{lines, whole_lines}

-- the lines of what was taken that were read to their ends: an unfinished last line counts only if no byte is still to come
abbrev pub lines_read : List ℕ → List ℕ → List (List ℕ)
lines_read taken left = if length left == 0 then lines taken else take (whole_lines taken) (lines taken)

-- these lines are the first of those read
pub record AreFirst (taken left : List ℕ) (ls : List (List ℕ)) : Type 0 where
  pub enough : length ls ≤ length (lines_read taken left)
  pub are : take (length ls) (lines_read taken left) ≡ ls
