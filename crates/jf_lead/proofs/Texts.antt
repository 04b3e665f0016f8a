-- The lines of changes are written one by one.
use Rattle.std.proofs.Common.{◌≡◌, ℕ, ◌+◌, ◌<◌, None, List, [], ◌++◌, length, take, get_or}
use Rattle.std.proofs.lemmas.List.{take_more, append_assoc, flat_map_more}
use Rattle.jf_hash.specs.Maps.{Batch}
use Rattle.jf_model.specs.Puts.{Change}
use Rattle.jf_text.specs.Words.{line_text}
use Rattle.jf_lead.specs.Landings.{change_words, change_lines, landing_head_line, landing_text}

-- one more line of a change
pub change_lines-more : (before out line : List ℕ) (cs : Batch) (i : ℕ) → i < length cs → out ≡ before ++ change_lines (take i cs)
    → line ≡ line_text (change_words (get_or cs i ([], None)).0 (get_or cs i ([], None)).1) → out ++ line ≡ before ++ change_lines (take (i + 1) cs)
change_lines-more before out line cs i h e is =
    rw (e, is, take_more cs i ([], None) h) (flat_map_more (λ (c : Change). line_text (change_words c.0 c.1)) before (take i cs) (get_or cs i ([], None)))

-- a block is its first line and its changes, written one after another
pub landing_text-pieces : (out : List ℕ) (version : ℕ) (root : List ℕ) (batch : Batch) → (out ++ landing_head_line version root (length batch)) ++ change_lines batch ≡ out ++ landing_text version root batch
unfolding landing_text
landing_text-pieces out version root batch = append_assoc out (landing_head_line version root (length batch)) (change_lines batch)
