-- The bytes after a line, and after some lines.
use Rattle.std.proofs.Common.{◌≡◌, ℕ, zero, suc, ◌+◌, ◌<◌, ◌≤◌, inl, inr, cond, not, List, [], ◌∷◌, ◌++◌, take, drop, length, refl, sym, ap, ◌∙◌, arith, append_assoc, take-append-drop, length-drop, eq-or-lt_of_le}
use Rattle.std.proofs.lemmas.List.{drop-drop}
use Rattle.std.specs.List.{AllByRecursion, position_or_len, after_first, before_first}
use Rattle.jf_io.specs.LineReader.{is_line_feed}
use Rattle.jf_io.specs.Inputs.{IsPlain, text_of_lines}
use Rattle.jf_io.specs.Lines.{lines, bytes_after}
use Rattle.jf_io.proofs.Shortened.{after_after}
use Rattle.jf_io.proofs.Plain.{place_le, front_split, front_plain, held_plain}
use Rattle.jf_io.proofs.EndedLines.{lines-none, lines_one, lines_last}
use Rattle.jf_io.proofs.Found.{after_whole}

-- ---- how many there are
-- no bytes come after a line that isn't finished
pub few_none : (piece : ℕ) (held : List ℕ) → 1 ≤ piece → position_or_len is_line_feed held ≡ length held → length (after_first is_line_feed held) < piece
few_none piece held some plain = omega (arith, some, ap length (after_whole held plain))

-- a piece is put after such a line
pub few_more : (piece : ℕ) (held new : List ℕ) → 1 ≤ piece → position_or_len is_line_feed held ≡ length held → take (length held) new ≡ held → length new ≤ length held + piece → length (after_first is_line_feed new) < piece
few_more piece held new some plain front size =
    let more = drop (length held) new in
    let whole : held ++ more ≡ new = ap (λ t. t ++ more) (sym front) ∙ take-append-drop (length held) new in
    let same : after_first is_line_feed new ≡ after_first is_line_feed more = ap (after_first is_line_feed) (sym whole) ∙ after_after held more plain in
    omega (arith, some, size, ap length same, length-drop (length held) new, length-drop (position_or_len is_line_feed more + 1) more)

-- ---- after lines that end with their line feeds
plain_place : (l : List ℕ) → IsPlain l → position_or_len is_line_feed l ≡ length l
plain_place [] p = refl
plain_place (b ∷ l) p = ap (λ t. cond (not t) (1 + position_or_len is_line_feed l) 0) p.0 ∙ omega (arith, plain_place l p.1)

after_line : (l x : List ℕ) → IsPlain l → after_first is_line_feed (l ++ 10 ∷ x) ≡ x
after_line l x p = after_after l (10 ∷ x) (plain_place l p)

-- after one of several
after_one : (l : List ℕ) (ls : List (List ℕ)) (x : List ℕ) → IsPlain l → after_first is_line_feed (text_of_lines (l ∷ ls) ++ x) ≡ text_of_lines ls ++ x
after_one l ls x p = ap (after_first is_line_feed) (append_assoc l (10 ∷ text_of_lines ls) x) ∙ after_line l (text_of_lines ls ++ x) p

pub bytes_after-ended : (ls : List (List ℕ)) (x : List ℕ) → AllByRecursion IsPlain ls → bytes_after (length ls) (text_of_lines ls ++ x) ≡ x
bytes_after-ended [] x p = refl
bytes_after-ended (l ∷ ls) x p = ap (bytes_after (length ls)) (after_one l ls x p.0) ∙ bytes_after-ended ls x p.1

-- and after one more
pub bytes_after-next : (ls : List (List ℕ)) (l x : List ℕ) → AllByRecursion IsPlain ls → bytes_after (length (ls ++ l ∷ [])) (text_of_lines ls ++ x) ≡ after_first is_line_feed x
bytes_after-next [] l x p = refl
bytes_after-next (k ∷ ls) l x p = ap (bytes_after (length (ls ++ l ∷ []))) (after_one k ls x p.0) ∙ bytes_after-next ls l x p.1

-- ---- their lines are the later ones
one_at_most : (l : List ℕ) → IsPlain l → drop 1 (lines l) ≡ []
one_at_most [] p = ap (drop 1) lines-none
one_at_most (b ∷ l) p = ap (drop 1) (lines_last b l p)

lines_later : (bytes : List ℕ) → lines (after_first is_line_feed bytes) ≡ drop 1 (lines bytes)
lines_later bytes = elim (eq-or-lt_of_le (place_le bytes)) [
  | inl whole ↦ ap lines (after_whole bytes whole) ∙ lines-none ∙ sym (one_at_most bytes (held_plain bytes whole))
  | inr cut ↦ sym (ap (λ b. drop 1 (lines b)) (front_split bytes cut) ∙ ap (drop 1) (lines_one (before_first is_line_feed bytes) (after_first is_line_feed bytes) (front_plain bytes)))
]

pub lines-after : (n : ℕ) (bytes : List ℕ) → lines (bytes_after n bytes) ≡ drop n (lines bytes)
lines-after zero bytes = refl
lines-after (suc n) bytes =
    lines-after n (after_first is_line_feed bytes) ∙ ap (drop n) (lines_later bytes) ∙ drop-drop n 1 (lines bytes) ∙ ap (λ k. drop k (lines bytes)) (let e : 1 + n ≡ suc n = omega arith in e)
