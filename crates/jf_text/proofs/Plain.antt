-- Words without a space or a line feed.
use Rattle.std.proofs.Common.{ℕ, ◌==◌, Bool, true, false, if◌then◌else◌, List, [], ◌∷◌, ◌≡◌, refl, ◌+◌, ◌++◌, ap, ◌∙◌, ◌%◌, ◌^◌, ◌<◌, decimal, arith}
use Rattle.std.proofs.lemmas.Bool.Decides.{nat_tests}
use Rattle.std.proofs.lemmas.Fmt.{decimal_by_steps}
use Rattle.std.specs.List.{join_with_byte}
use Rattle.jf_path.proofs.BoolLaws.{not_and_passes, both_pass}
use Rattle.jf_text.specs.Words.{words}

-- the byte stands nowhere in the list
abbrev pub is_without : ℕ → List ℕ → Bool
is_without c [] = true
is_without c (b ∷ w) = if b == c then false else is_without c w

-- a plain word: no byte is a space or a line feed
abbrev pub is_plain : List ℕ → Bool
is_plain w = if is_without 32 w then is_without 10 w else false

abbrev pub all_plain : List (List ℕ) → Bool
all_plain [] = true
all_plain (w ∷ ws) = if is_plain w then all_plain ws else false

-- ---- words
-- a word without a space is one word
pub words-one : (w : List ℕ) → is_without 32 w ≡ true → words w ≡ w ∷ []
unfolding words
words-one [] h = refl
words-one (b ∷ w) h = let parts = not_and_passes (b == 32) (is_without 32 w) h in rw (parts.0, words-one w parts.1) refl

words-first : (w rest : List ℕ) → is_without 32 w ≡ true → words (w ++ 32 ∷ rest) ≡ w ∷ words rest
unfolding words
words-first [] rest h = refl
words-first (b ∷ w) rest h = let parts = not_and_passes (b == 32) (is_without 32 w) h in rw (parts.0, words-first w rest parts.1) refl

-- joined words are cut as they were joined
pub words-join : (w : List ℕ) (ws : List (List ℕ)) → is_plain w ≡ true → all_plain ws ≡ true → words (join_with_byte 32 (w ∷ ws)) ≡ w ∷ ws
words-join w [] h hs = words-one w (both_pass (is_without 32 w) (is_without 10 w) h).0
words-join w (v ∷ vs) h hs =
    let parts = both_pass (is_plain v) (all_plain vs) hs in
    words-first w (join_with_byte 32 (v ∷ vs)) (both_pass (is_without 32 w) (is_without 10 w) h).0 ∙ ap (λ ws. w ∷ ws) (words-join v vs parts.0 parts.1)

-- ---- joined words are plain but for spaces
is_without-append : (c : ℕ) (v w : List ℕ) → is_without c v ≡ true → is_without c w ≡ true → is_without c (v ++ w) ≡ true
is_without-append c [] w h k = k
is_without-append c (b ∷ v) w h k = let parts = not_and_passes (b == c) (is_without c v) h in rw parts.0 (is_without-append c v w parts.1 k)

pub is_without-join : (w : List ℕ) (ws : List (List ℕ)) → is_plain w ≡ true → all_plain ws ≡ true → is_without 10 (join_with_byte 32 (w ∷ ws)) ≡ true
is_without-join w [] h hs = (both_pass (is_without 32 w) (is_without 10 w) h).1
is_without-join w (v ∷ vs) h hs =
    let parts = both_pass (is_plain v) (all_plain vs) hs in
    is_without-append 10 w (32 ∷ join_with_byte 32 (v ∷ vs)) (both_pass (is_without 32 w) (is_without 10 w) h).1 (is_without-join v vs parts.0 parts.1)

-- ---- numbers are plain
is_without-push : (c b : ℕ) (w : List ℕ) → is_without c w ≡ true → (b == c) ≡ false → is_without c (w ++ b ∷ []) ≡ true
is_without-push c b w h e = is_without-append c w (b ∷ []) h (rw e refl)

is_without-decimal : (c n : ℕ) → c < 48 → n < 2 ^ 64 → is_without c (decimal n) ≡ true
is_without-decimal c n small h =
    decimal_by_steps (λ _ ds. is_without c ds ≡ true)
    (λ m digit. let e : (48 + m == c) ≡ false = grind (arith, nat_tests) in rw e refl)
    (λ m ds large so_far. let e : (48 + m % 10 == c) ≡ false = grind (arith, nat_tests) in is_without-push c (48 + m % 10) ds so_far e)
    n h

pub is_plain-decimal : (n : ℕ) → n < 2 ^ 64 → is_plain (decimal n) ≡ true
is_plain-decimal n h = rw (is_without-decimal 32 n (omega arith) h) (is_without-decimal 10 n (omega arith) h)
