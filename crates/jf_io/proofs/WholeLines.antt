-- The lines of bytes that come in two parts, and how many of them end with 0A.
use Rattle.std.proofs.Common.{◌≡◌, ℕ, ◌+◌, ◌==◌, Bool, true, false, cond, List, [], ◌∷◌, ◌++◌, length, take, refl, sym, ap, ◌∙◌, arith, take_all}
use Rattle.std.proofs.lemmas.List.{take-append-le}
use Rattle.std.proofs.lemmas.List.Sums.{sum_by-append, sum_by-cons}
use Rattle.std.specs.List.{onto_first}
use Rattle.jf_io.specs.Lines.{lines, one_line, whole_lines}

abbrev HasLine : List (List ℕ) → Type 0
HasLine [] = ⊥
HasLine (l ∷ ls) = Unit {0}

onto_more : (b : ℕ) (ls ms : List (List ℕ)) → HasLine ls → onto_first b (ls ++ ms) ≡ onto_first b ls ++ ms
onto_more b [] ms h = absurd h
onto_more b (l ∷ ls) ms h = refl

onto_has : (b : ℕ) (ls : List (List ℕ)) → HasLine (onto_first b ls)
onto_has b [] = tt
onto_has b (l ∷ ls) = tt

has_line : (xs : List ℕ) → HasLine (lines (xs ++ 10 ∷ []))
unfolding lines
has_line [] = tt
has_line (x ∷ xs) = elim (x == 10) as (λ b. HasLine (cond b ([] ∷ lines (xs ++ 10 ∷ [])) (onto_first x (lines (xs ++ 10 ∷ []))))) [ true ↦ tt | false ↦ onto_has x (lines (xs ++ 10 ∷ [])) ]

-- after a 0A the lines are those of the bytes that follow
pub lines-append : (xs ys : List ℕ) → lines (xs ++ 10 ∷ ys) ≡ lines (xs ++ 10 ∷ []) ++ lines ys
unfolding lines
lines-append [] ys = refl
lines-append (x ∷ xs) ys =
    elim (x == 10) as (λ b. cond b ([] ∷ lines (xs ++ 10 ∷ ys)) (onto_first x (lines (xs ++ 10 ∷ ys))) ≡ cond b ([] ∷ lines (xs ++ 10 ∷ [])) (onto_first x (lines (xs ++ 10 ∷ []))) ++ lines ys) [
      | true ↦ ap (λ t. [] ∷ t) (lines-append xs ys)
      | false ↦ ap (onto_first x) (lines-append xs ys) ∙ onto_more x (lines (xs ++ 10 ∷ [])) (lines ys) (has_line xs)
    ]

not_one : (t : Bool) (n : ℕ) → cond t 1 0 + n ≡ 0 → t ≡ false
not_one true n h = absurd (omega arith)
not_one false n h = refl

-- one more byte in front
pub whole_lines-cons : (b : ℕ) (bytes : List ℕ) → whole_lines (b ∷ bytes) ≡ cond (b == 10) 1 0 + whole_lines bytes
whole_lines-cons b bytes = sum_by-cons (λ x. cond (x == 10) 1 0) b bytes

pub whole_lines-append : (xs ys : List ℕ) → whole_lines (xs ++ ys) ≡ whole_lines xs + whole_lines ys
whole_lines-append xs ys = sum_by-append (λ x. cond (x == 10) 1 0) xs ys

-- bytes without 0A begin with another byte, and have no 0A after it
no_feed : (b : ℕ) (bytes : List ℕ) → whole_lines (b ∷ bytes) ≡ 0 → ((b == 10) ≡ false) × (whole_lines bytes ≡ 0)
no_feed b bytes h =
    let e = whole_lines-cons b bytes in
    (not_one (b == 10) (whole_lines bytes) (sym e ∙ h), omega arith)

-- bytes without 0A are one line
onto_one : (b : ℕ) (bytes : List ℕ) → onto_first b (one_line bytes) ≡ (b ∷ bytes) ∷ []
onto_one b [] = refl
onto_one b (c ∷ bytes) = refl

pub lines-one : (bytes : List ℕ) → whole_lines bytes ≡ 0 → lines bytes ≡ one_line bytes
unfolding lines
lines-one [] h = refl
lines-one (b ∷ bytes) h =
    let none = no_feed b bytes h in
    rw (none.0, lines-one bytes none.1) (onto_one b bytes)

-- the first line ends at the first 0A
pub lines-first : (line rest : List ℕ) → whole_lines line ≡ 0 → lines (line ++ 10 ∷ rest) ≡ line ∷ lines rest
unfolding lines
lines-first [] rest h = refl
lines-first (b ∷ line) rest h =
    let none = no_feed b line h in
    rw (none.0, lines-first line rest none.1) refl

-- a byte put onto the first line makes no new line
length-onto : (b : ℕ) (ls : List (List ℕ)) → HasLine ls → length (onto_first b ls) ≡ length ls
length-onto b [] h = absurd h
length-onto b (l ∷ ls) h = refl

length-lines_step : (b : ℕ) (ls : List (List ℕ)) (n : ℕ) (t : Bool) → HasLine ls → length ls ≡ n → length (cond t ([] ∷ ls) (onto_first b ls)) ≡ cond t 1 0 + n
length-lines_step b ls n true h e = omega (arith, e)
length-lines_step b ls n false h e = omega (arith, e, length-onto b ls h)

pub length-lines : (front : List ℕ) → length (lines (front ++ 10 ∷ [])) ≡ whole_lines (front ++ 10 ∷ [])
unfolding lines
length-lines [] = refl
length-lines (b ∷ front) =
    length-lines_step b (lines (front ++ 10 ∷ [])) (whole_lines (front ++ 10 ∷ [])) (b == 10) (has_line front) (length-lines front)
    ∙ sym (whole_lines-cons b (front ++ 10 ∷ []))

-- the lines that end with 0A are those of the bytes up to the last 0A
pub take-lines : (front rest : List ℕ) → whole_lines rest ≡ 0
    → take (whole_lines (front ++ 10 ∷ rest)) (lines (front ++ 10 ∷ rest)) ≡ lines (front ++ 10 ∷ [])
take-lines front rest h =
    let count : whole_lines (front ++ 10 ∷ rest) ≡ length (lines (front ++ 10 ∷ [])) =
    omega (arith, whole_lines-append front (10 ∷ rest), whole_lines-append front (10 ∷ []), whole_lines-cons 10 rest, length-lines front, h) in
    rw (count, lines-append front rest) (
    take-append-le (length (lines (front ++ 10 ∷ []))) (lines (front ++ 10 ∷ [])) (lines rest) (omega arith)
    ∙ take_all (length (lines (front ++ 10 ∷ []))) (lines (front ++ 10 ∷ [])) (omega arith)
    )

-- a worked input
two_lines : lines (97 ∷ 10 ∷ 10 ∷ 98 ∷ []) ≡ (97 ∷ []) ∷ [] ∷ (98 ∷ []) ∷ []
unfolding lines
two_lines = refl
