-- What is written of a version and the history that it belongs to: the total of the recorded roots, the proof that its root is among them, and the proof that they begin with those up to it (docs/FORMATS.md, Totals).
use Rattle.std.specs.Prelude.{ℕ, ◌+◌, ◌-◌, List, [], ◌∷◌, ◌++◌, length, reverse, slice_index_or, codes, decimal}
use Rattle.hex.specs.Hex.{encode_lower}
use Rattle.jf_model.specs.Versions.{Versions}
use Rattle.jf_text.specs.Words.{line_text}
use Rattle.jf_blocks.specs.Blocks.{side_lines}
use Rattle.jf_accum.specs.Totals.{total}
use Rattle.jf_accum.specs.Members.{member}
use Rattle.jf_accum.specs.Extensions.{extension}

-- the recorded roots, from the base up to the head
abbrev pub recorded_roots : Versions → List (List ℕ)
recorded_roots v = reverse v.roots

-- the line of the total: how many roots there are, and their total
unfoldable pub total_line : List (List ℕ) → List ℕ
total_line hs = line_text (codes "total" ∷ decimal (length hs) ∷ encode_lower (total hs) ∷ [])

-- the block of one root: its place, the root, the number of lines that follow, and a line for each hash of its proof
unfoldable pub member_lines : List (List ℕ) → ℕ → List ℕ
member_lines hs i = line_text (codes "member" ∷ decimal i ∷ encode_lower (slice_index_or hs i []) ∷ decimal (length (member hs i)) ∷ []) ++ side_lines (member hs i)

-- the block of the first m roots: m, the number of lines that follow, and a line for each hash of the proof
unfoldable pub extends_lines : List (List ℕ) → ℕ → List ℕ
extends_lines hs m = line_text (codes "extends" ∷ decimal m ∷ decimal (length (extension hs m)) ∷ []) ++ side_lines (extension hs m)

-- the text on a version from base to head: the total, the block of its root, and that of the roots up to it
unfoldable pub history_text : Versions → ℕ → List ℕ
history_text v version = (total_line (recorded_roots v) ++ member_lines (recorded_roots v) (version - v.base)) ++ extends_lines (recorded_roots v) (version - v.base + 1)
