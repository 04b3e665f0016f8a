-- Words as numbers: the value never falls as more digits are read, and each number has exactly one text.
use Rattle.std.proofs.Common.{ℕ, ◌+◌, ◌-◌, ◌*◌, List, fold, ◌≤◌, [], ◌∷◌, arith, ◌≡◌, ◌++◌, ◌<◌, take, drop, length, get_or, ap, ◌^◌, None, true, Some, decimal, bytes_eq, false}
use Rattle.std.proofs.lemmas.Bool.Decides.{nat_tests}
use Rattle.std.proofs.lemmas.Grind.{fold-append}
use Rattle.std.proofs.lemmas.List.{take-append-drop}
use Rattle.std.proofs.lemmas.List.Sums.{fold_more}
use Rattle.jf_text.specs.Words.{digits_value, number}

-- the value of digits that follow a number
abbrev value_after_digits : ℕ → List ℕ → ℕ
value_after_digits n w = fold (λ m c. m * 10 + (c - 48)) n w

value_after_digits-le : (w : List ℕ) (n : ℕ) → n ≤ value_after_digits n w
value_after_digits-le [] n = omega arith
value_after_digits-le (c ∷ w) n = let h = value_after_digits-le w (n * 10 + (c - 48)) in omega arith

-- the first digits have no greater value than all of them
pub digits_value-append : (v w : List ℕ) → digits_value v ≤ digits_value (v ++ w)
digits_value-append v w =
    let e : digits_value (v ++ w) ≡ value_after_digits (digits_value v) w = fold-append (λ m c. m * 10 + (c - 48)) 0 v w in
    let h = value_after_digits-le w (digits_value v) in omega arith

-- the digits up to and including a place have no greater value than all of them
pub digits_value-more : (w : List ℕ) (i : ℕ) → i < length w → digits_value (take i w) * 10 + (get_or w i 0 - 48) ≤ digits_value w
digits_value-more w i h =
    let more : digits_value (take (i + 1) w) ≡ digits_value (take i w) * 10 + (get_or w i 0 - 48) = fold_more (λ n c. n * 10 + (c - 48)) 0 w i 0 h in
    let part = digits_value-append (take (i + 1) w) (drop (i + 1) w) in
    let whole = ap digits_value (take-append-drop (i + 1) w) in omega arith

-- digits whose value is 2 ^ 64 or more are no number
pub number-too_great : (w : List ℕ) → 2 ^ 64 ≤ digits_value w → number w ≡ None
unfolding number
number-too_great w h = grind (arith, nat_tests)

-- the decimal text of a number is read as that number
pub number-text : (w : List ℕ) (n : ℕ) → n ≡ digits_value w → n < 2 ^ 64 → bytes_eq w (decimal n) ≡ true → number w ≡ Some n
unfolding number
number-text w n e h same = grind (arith, nat_tests)

-- a word that differs from the decimal text of its value is no number
pub number-other : (w : List ℕ) (n : ℕ) → n ≡ digits_value w → bytes_eq w (decimal n) ≡ false → number w ≡ None
unfolding number
number-other w n e same = grind (arith, nat_tests)
