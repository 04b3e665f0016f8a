-- A line at the front of what is held is the first line of the bytes held and still to come.
use Rattle.std.specs.Prelude.{unwrap_or}
use Rattle.std.proofs.Common.{inl, inr, ℕ, List, Option, ◌≡◌, ◌⊎◌, ◌<◌, [], length, Some, eq-or-lt_of_le, arith, ◌+◌, drop, ap, ◌∙◌, ◌∷◌, ◌++◌, append_assoc, sym, append-nil, refl}
use Rattle.std.proofs.lemmas.List.{drop_all}
use Rattle.std.specs.List.{position_or_len, after_first, before_first}
use Rattle.jf_io.specs.LineReader.{IsShortened, is_line_feed}
use Rattle.jf_io.specs.Inputs.{IsLineFound, IsPlain}
use Rattle.jf_io.specs.Lines.{lines}
use Rattle.jf_io.proofs.Shortened.{finished-text, some-text}
use Rattle.jf_io.proofs.Plain.{place_le, front_plain, front_split, front_whole, held_plain}
use Rattle.jf_io.proofs.EndedLines.{lines_one, lines_last, lines-none}

-- a line that is found in a shortened text is found in the whole text
pub found_whole : (limit : ℕ) (source : Option (List ℕ)) (whole held : List ℕ) → IsShortened limit whole held → IsLineFound held source → IsLineFound whole source
found_whole limit source whole held short (inl cut) = inl (finished-text limit whole held short cut)
found_whole limit source whole held short (inr last) = inr (some-text limit whole held short last.0, last.1)

-- the line found ends with a line feed, or no byte is still to come
pub where_of : (held : List ℕ) (rest : Option (List ℕ)) → IsLineFound held rest
    → (position_or_len is_line_feed held < length held) ⊎ ((position_or_len is_line_feed held ≡ length held) × (0 < length held) × ((left : List ℕ) → rest ≡ Some left → left ≡ []))
where_of held rest (inl cut) = inl cut
where_of held rest (inr last) = elim (eq-or-lt_of_le (place_le held)) [ inl whole ↦ inr (whole, last.0, last.1) | inr cut ↦ inl cut ]

pub cut_of : (held : List ℕ) → (position_or_len is_line_feed held ≡ length held → ⊥) → position_or_len is_line_feed held < length held
cut_of held more = elim (eq-or-lt_of_le (place_le held)) [ inl whole ↦ absurd (more whole) | inr cut ↦ cut ]

pub last_of : (held : List ℕ) (rest : Option (List ℕ)) → position_or_len is_line_feed held ≡ length held → IsLineFound held rest
    → (position_or_len is_line_feed held ≡ length held) × (0 < length held) × ((left : List ℕ) → rest ≡ Some left → left ≡ [])
last_of held rest whole (inl cut) = absurd (omega arith)
last_of held rest whole (inr last) = (whole, last.0, last.1)

-- nothing is held after a line without a line feed
pub after_whole : (held : List ℕ) → position_or_len is_line_feed held ≡ length held → after_first is_line_feed held ≡ []
after_whole held e = ap (λ n. drop (n + 1) held) e ∙ drop_all (length held + 1) held (omega arith)

cut_line : (held left : List ℕ) → position_or_len is_line_feed held < length held → lines (held ++ left) ≡ before_first is_line_feed held ∷ lines (after_first is_line_feed held ++ left)
cut_line held left cut =
    let front = before_first is_line_feed held in
    let after = after_first is_line_feed held in
    ap (λ h. lines (h ++ left)) (front_split held cut) ∙ ap lines (append_assoc front (10 ∷ after) left) ∙ lines_one front (after ++ left) (front_plain held)

one_line : (l : List ℕ) → IsPlain l → 0 < length l → lines l ≡ l ∷ []
one_line [] p some = absurd (omega arith)
one_line (b ∷ l) p some = lines_last b l p

last_line : (held : List ℕ) → position_or_len is_line_feed held ≡ length held → 0 < length held → lines (held ++ []) ≡ before_first is_line_feed held ∷ lines (after_first is_line_feed held ++ [])
last_line held whole some =
    ap lines (append-nil held) ∙ one_line held (held_plain held whole) some ∙ ap (λ l. l ∷ []) (sym (front_whole held whole))
    ∙ ap (λ ls. before_first is_line_feed held ∷ ls) (sym (ap (λ a. lines (a ++ [])) (after_whole held whole) ∙ lines-none))

-- the lines to come are the one that was found and those after it
pub lines_found : (held left : List ℕ) → IsLineFound held (Some left) → lines (held ++ left) ≡ before_first is_line_feed held ∷ lines (after_first is_line_feed held ++ left)
lines_found held left found = elim (where_of held (Some left) found) [
  | inl cut ↦ cut_line held left cut
  | inr last ↦ let none : left ≡ [] = last.2 left refl in
      ap (λ l. lines (held ++ l)) none ∙ last_line held last.0 last.1 ∙ ap (λ l. before_first is_line_feed held ∷ lines (after_first is_line_feed held ++ l)) (sym none)
]

-- the lines of bytes are the first one and those after it
pub lines-split : (bytes : List ℕ) → 0 < length bytes → lines bytes ≡ before_first is_line_feed bytes ∷ lines (after_first is_line_feed bytes)
lines-split bytes some =
    ap lines (sym (append-nil bytes)) ∙ lines_found bytes [] (inr (some, λ left e. sym (ap (λ o. unwrap_or o []) e)))
    ∙ ap (λ after. before_first is_line_feed bytes ∷ lines after) (append-nil (after_first is_line_feed bytes))
