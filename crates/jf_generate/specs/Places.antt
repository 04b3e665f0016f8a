-- The lines that are still to come at a place in a generated script, and what a call for the next line does.
use Rattle.std.specs.Prelude.{ℕ, ◌≡◌, ◌+◌, Bool, true, false, List, [], ◌∷◌, ◌++◌, Some, None, codes, decimal}
use Rattle.jf_generate.specs.Scripts.{drawn_line, drawn_lines, drawn_after, prune_lines, compact_lines, batch_end, generated_from}
use Rattle.jf_generate.specs.declared.line.ScriptLine.{ScriptLine}
use Rattle.jf_generate.specs.declared.line.ScriptLine.TheVariants as line
use Rattle.jf_generate.specs.declared.place.ScriptPlace.{ScriptPlace}

-- the text of a line
abbrev pub script_line : ScriptLine → List ℕ
script_line (line.Drawn x) = drawn_line x
script_line line.Commit = codes "commit"
script_line (line.Prune upto) = codes "prune " ++ decimal upto
script_line line.Compact = codes "compact"
script_line line.Root = codes "root head"
script_line line.Status = codes "status"

-- the lines after the batch of a place
abbrev pub behind_batch : ScriptPlace → List (List ℕ)
behind_batch p = generated_from p.later (p.batch + 1) p.size p.x

-- the lines after those puts and deletes of the batch that have come
abbrev pub behind_drawn : ScriptPlace → List (List ℕ)
behind_drawn p = drawn_lines p.left p.x ++ batch_end p.batch (generated_from p.later (p.batch + 1) p.size (drawn_after p.left p.x))

-- the lines after the commit of the batch
abbrev pub behind_commit : ScriptPlace → List (List ℕ)
behind_commit p = prune_lines p.batch ++ (compact_lines p.batch ++ behind_batch p)

-- the lines after a line that stands at a place
abbrev pub lines_behind : ScriptLine → ScriptPlace → List (List ℕ)
lines_behind (line.Drawn x) p = behind_drawn p
lines_behind line.Commit p = behind_commit p
lines_behind (line.Prune upto) p = compact_lines p.batch ++ behind_batch p
lines_behind line.Compact p = behind_batch p
lines_behind line.Root p = codes "status" ∷ []
lines_behind line.Status p = []

-- the lines that are to come: the one at the place, and those after it
abbrev pub to_come : ScriptPlace → List (List ℕ)
to_come p = elim p.line [ None ↦ [] | Some l ↦ script_line l ∷ lines_behind l p ]

-- what a call for the next line does: the first line that is to come is appended, and the others are to come after it. With none to come, it says so and changes nothing
abbrev pub GivesNext : List (List ℕ) → List (List ℕ) → List ℕ → List ℕ → Bool → Type 0
GivesNext [] after text_before text_after there = (there ≡ false) × (after ≡ []) × (text_after ≡ text_before)
GivesNext (l ∷ ls) after text_before text_after there = (there ≡ true) × (after ≡ ls) × (text_after ≡ text_before ++ l)
