-- Bounds that every number meets, and numbers read back from their text.
use Rattle.std.proofs.Common.{◌≡◌, ℕ, ◌+◌, ◌-◌, ◌*◌, ◌%◌, ◌^◌, ◌<◌, ◌≤◌, ◌&&◌, nat_le, nat_lt, Bool, true, false, cond, if◌then◌else◌, List, [], ◌∷◌, ◌++◌, length, Option, Some, None, option_and_then, is_some, bytes_eq, decimal, refl, ◌∙◌, arith}
use Rattle.std.proofs.lemmas.Fmt.{decimal_by_steps, length-decimal-le}
use Rattle.std.proofs.lemmas.Grind.{fold-append}
use Rattle.std.proofs.lemmas.Slice.Eq.{bytes_eq-Decides}
use Rattle.std.proofs.lemmas.Bool.{and_parts, ltb-true}
use Rattle.std.proofs.lemmas.Bool.Decides.{nat_tests}
use Rattle.jf_text.specs.Words.{digits_value, number, number_upto, number_from}

from_zero : (o : Option ℕ) → option_and_then (λ n. if nat_le 0 n then Some n else None) o ≡ o
from_zero None = refl
from_zero (Some n) = grind (arith, nat_tests)

-- each number is 0 or more
pub number_from-zero : (most : ℕ) (w : List ℕ) → number_from 0 most w ≡ number_upto most w
number_from-zero most w = from_zero (number_upto most w)

kept : (most n : ℕ) (b : Bool) → (b ≡ true → n ≤ most) → option_and_then (λ m. if nat_le m most then Some m else None) (cond b (Some n) None) ≡ cond b (Some n) None
kept most n true h = let le : n ≤ most = h refl in grind (arith, nat_tests)
kept most n false h = refl

small : (b : Bool) (n : ℕ) → (b && nat_lt n (2 ^ 64)) ≡ true → n ≤ 2 ^ 64 - 1
small b n e = let h = ltb-true n (2 ^ 64) (and_parts b (nat_lt n (2 ^ 64)) e).1 in omega arith

-- each number is below 2 ^ 64
pub number_upto-all : (w : List ℕ) → number_upto (2 ^ 64 - 1) w ≡ number w
unfolding number
number_upto-all w =
    kept (2 ^ 64 - 1) (digits_value w) (bytes_eq w (decimal (digits_value w)) && nat_lt (digits_value w) (2 ^ 64)) (small (bytes_eq w (decimal (digits_value w))) (digits_value w))

pub number_from-all : (w : List ℕ) → number_from 0 (2 ^ 64 - 1) w ≡ number w
number_from-all w = number_from-zero (2 ^ 64 - 1) w ∙ number_upto-all w

-- with bounds that every number meets, only a word that is no number is refused
pub is_some-none : (b t : Bool) (o : Option ℕ) (w : List ℕ) → b ≡ is_some o → o ≡ number_from 0 (2 ^ 64 - 1) w → b ≡ false → b ≡ (is_some (number w) && t)
is_some-none b t o w e from no_number = let n : is_some (number w) ≡ false = cc (number_from-all w) in rw (n, no_number) refl

-- ---- read back

value-back : (n : ℕ) → n < 2 ^ 64 → digits_value (decimal n) ≡ n
value-back n h =
    decimal_by_steps (λ m ds. digits_value ds ≡ m)
    (λ m digit. let e : 0 * 10 + (48 + m - 48) ≡ m = omega arith in e)
    (λ m ds large so_far.
    let more : digits_value (ds ++ (48 + m % 10) ∷ []) ≡ digits_value ds * 10 + (48 + m % 10 - 48) = fold-append (λ a c. a * 10 + (c - 48)) 0 ds ((48 + m % 10) ∷ []) in
    omega arith)
    n h

below_all : (n : ℕ) → n < 2 ^ 64 → nat_lt n (2 ^ 64) ≡ true
below_all n h = grind (arith, nat_tests)

pub number-back : (n : ℕ) → n < 2 ^ 64 → number (decimal n) ≡ Some n
unfolding number
number-back n h =
    let same : bytes_eq (decimal n) (decimal n) ≡ true = (bytes_eq-Decides (decimal n) (decimal n)).1 refl in
    rw (value-back n h, same, below_all n h) refl

at_most : (n most : ℕ) → n ≤ most → nat_le n most ≡ true
at_most n most h = grind (arith, nat_tests)

pub number_upto-back : (most n : ℕ) → n < 2 ^ 64 → n ≤ most → number_upto most (decimal n) ≡ Some n
number_upto-back most n h few = rw (number-back n h, at_most n most few) refl

-- the text of a number has at most 20 digits
pub length-decimal : (n : ℕ) → n < 2 ^ 64 → length (decimal n) ≤ 20
length-decimal n h = length-decimal-le 20 n (omega arith) (omega arith) h
