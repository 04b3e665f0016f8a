-- A line is cut into words at its spaces.
use Rattle.std.proofs.Common.{◌≡◌, ℕ, ◌+◌, ◌<◌, ◌≤◌, ◌==◌, true, false, cond, List, [], ◌∷◌, ◌++◌, length, take, drop, get_or, All, refl, sym, ap, ◌∙◌, arith, take_all, length-take}
use Rattle.std.proofs.lemmas.List.{append_assoc, drop_more, get_or-take, take-append-drop}
use Rattle.std.proofs.lemmas.Bool.{eqb-true, false_from_ne_true}
use Rattle.std.proofs.lemmas.Grind.{get_or_default_zero}
use Rattle.std.proofs.lemmas.List.Splits.{join_with_byte-slice_split, slice_split_at, slice_split_none}
use Rattle.memchr.specs.Find.{Nowhere, NoneBefore, Passes, is_byte}
use Rattle.std.specs.List.{join_with_byte, onto_first}
use Rattle.jf_text.specs.Words.{spaced_words, words}

-- no byte is a space
abbrev pub HasNoSpace : List ℕ → Type 0
HasNoSpace bytes = All (λ b. (b == 32) ≡ false) bytes

-- a front in which no space was found has no space
no_space-take : (line : List ℕ) (i : ℕ) → i ≤ length line → Nowhere (Passes (is_byte 32) line) 0 i → HasNoSpace (take i line)
no_space-take line i h none =
    λ k d lt.
    let below : k < i = omega (arith, length-take i line) in
    let same : get_or (take i line) k d ≡ get_or line k 0 = get_or-take i line k d below ∙ get_or_default_zero line k d (omega arith) in
    false_from_ne_true (get_or (take i line) k d == 32) (rw same (none k (omega arith) below))

-- the first word ends at the first space
pub words-at : (line : List ℕ) (i : ℕ) → NoneBefore (Passes (is_byte 32) line) 0 (length line) i × Passes (is_byte 32) line i → words line ≡ take i line ∷ words (drop (i + 1) line)
unfolding words
words-at line i h =
    let e : get_or line i 0 ≡ 32 = eqb-true (get_or line i 0) 32 h.1 in
    let lt : i < length line = h.0.high in
    let parts : line ≡ take i line ++ 32 ∷ drop (i + 1) line =
    sym (take-append-drop i line) ∙ ap (λ rest. take i line ++ rest) (drop_more line i 0 lt) ∙ ap (λ b. take i line ++ b ∷ drop (i + 1) line) e in
    ap words parts ∙ slice_split_at (λ b. b == 32) (take i line) 32 (drop (i + 1) line) (no_space-take line i (omega arith) h.0.before) refl

-- a line without a space is one word
pub words-whole : (line : List ℕ) → Nowhere (Passes (is_byte 32) line) 0 (length line) → words line ≡ line ∷ []
unfolding words
words-whole line none =
    slice_split_none (λ b. b == 32) line (rw (take_all (length line) line (omega arith)) at (no_space-take line (length line) (omega arith) none))

-- every line has at least one word
pub words-some : (line : List ℕ) → (w : List ℕ) × (ws : List (List ℕ)) × (words line ≡ w ∷ ws)
unfolding words
words-some [] = ([], [], refl)
words-some (b ∷ line) =
    let more = words-some line in
    elim (b == 32) as (λ t. (w : List ℕ) × (ws : List (List ℕ)) × (cond t ([] ∷ words line) (onto_first b (words line)) ≡ w ∷ ws)) [
      | true ↦ ([], words line, refl)
      | false ↦ rw more.2 (b ∷ more.0, more.1, refl)
    ]

-- a text of one word is that word
pub words-alone : (line w : List ℕ) → words line ≡ w ∷ [] → w ≡ line
unfolding words
words-alone line w is = sym (ap (join_with_byte 32) is) ∙ join_with_byte-slice_split 32 line

-- words are spaced in two parts as they are in one
pub spaced-append : (ws vs : List (List ℕ)) → spaced_words (ws ++ vs) ≡ spaced_words ws ++ spaced_words vs
spaced-append [] vs = refl
spaced-append (w ∷ ws) vs = ap (λ text. 32 ∷ w ++ text) (spaced-append ws vs) ∙ ap (λ text. 32 ∷ text) (sym (append_assoc w (spaced_words ws) (spaced_words vs)))
