-- Hexadecimal text has no space or line feed, and is read back as the bytes that were written.
use Rattle.std.proofs.Common.{◌≡◌, ℕ, ◌==◌, false, Some, None, inl, inr, sym, ap, ◌∙◌, arith, suc, ◌/◌, ◌%◌, ◌<◌, true, List, [], ◌∷◌, slice_index, refl, Bool, Option, zero, ◌&&◌, ◌+◌, ◌*◌, ◌≤◌, nat_le, length}
use Rattle.std.proofs.lemmas.Bool.{cases_eq, and_parts, cases_lt, eqb-true}
use Rattle.std.proofs.lemmas.Bool.Decides.{nat_tests}
use Rattle.hex.proofs.HexLemmas.{IsDigits-lower_digits}
use Rattle.hex.specs.Hex.{hex_digit_value, encode_with, encode_lower, lower_digits, IsBytes}
use Rattle.jf_text.specs.Words.{digit, byte_of, unhex, bytes_within}
use Rattle.jf_text.proofs.Plain.{is_without, is_plain}

-- ---- plain
other : (k c d : ℕ) → hex_digit_value k ≡ None → hex_digit_value c ≡ Some d → (c == k) ≡ false
other k c d none h =
    elim (cases_eq c k) [
      | inl same ↦ let e : hex_digit_value k ≡ Some d = ap hex_digit_value (sym same) ∙ h in cc (e, none)
      | inr differ ↦ grind (arith, nat_tests)
    ]

is_without-hex : (k : ℕ) (bytes : List ℕ) → hex_digit_value k ≡ None → IsBytes bytes → is_without k (encode_lower bytes) ≡ true
unfolding encode_with
is_without-hex k [] none h = refl
is_without-hex k (b ∷ bytes) none h =
    let fits : b < 256 = h 0 in
    let high = other k (slice_index lower_digits (b / 16)) (b / 16) none (IsDigits-lower_digits (b / 16) (omega arith)) in
    let low = other k (slice_index lower_digits (b % 16)) (b % 16) none (IsDigits-lower_digits (b % 16) (omega arith)) in
    rw (high, low) (is_without-hex k bytes none (λ i. h (suc i)))

pub is_plain-hex : (bytes : List ℕ) → IsBytes bytes → is_plain (encode_lower bytes) ≡ true
is_plain-hex bytes h = rw (is_without-hex 32 bytes refl h) (is_without-hex 10 bytes refl h)

-- ---- read back
abbrev is_digit_of : ℕ → Option ℕ → Bool
is_digit_of n None = false
is_digit_of n (Some v) = v == n

abbrev all_read : ℕ → Bool
all_read zero = true
all_read (suc n) = is_digit_of n (digit (slice_index lower_digits n)) && all_read n

read_below : (m n : ℕ) → all_read m ≡ true → n < m → is_digit_of n (digit (slice_index lower_digits n)) ≡ true
read_below zero n h lt = absurd (omega arith)
read_below (suc m) n h lt =
    let parts = and_parts (is_digit_of m (digit (slice_index lower_digits m))) (all_read m) h in
    elim (cases_lt n m) [
      | inl below ↦ read_below m n parts.1 below
      | inr top ↦ let e : n ≡ m = omega arith in rw e parts.0
    ]

some_digit : (n : ℕ) (o : Option ℕ) → is_digit_of n o ≡ true → o ≡ Some n
some_digit n None h = cc h
some_digit n (Some v) h = ap Some (eqb-true v n h)

digit-back : (n : ℕ) → n < 16 → digit (slice_index lower_digits n) ≡ Some n
digit-back n h = some_digit n (digit (slice_index lower_digits n)) (read_below 16 n refl h)

byte-back : (b : ℕ) → b < 256 → byte_of (slice_index lower_digits (b / 16)) (slice_index lower_digits (b % 16)) ≡ Some b
byte-back b h =
    let e : b / 16 * 16 + b % 16 ≡ b = omega arith in
    rw (digit-back (b / 16) (omega arith), digit-back (b % 16) (omega arith)) (ap Some e)

unhex-back : (bytes : List ℕ) → IsBytes bytes → unhex (encode_lower bytes) ≡ Some bytes
unfolding unhex encode_with
unhex-back [] h = refl
unhex-back (b ∷ bytes) h = rw (byte-back b (h 0), unhex-back bytes (λ i. h (suc i))) refl

within : (least most n : ℕ) → least ≤ n → n ≤ most → (nat_le least n && nat_le n most) ≡ true
within least most n low high = grind (arith, nat_tests)

-- a number of bytes within the bounds is read back
pub bytes_within-back : (least most : ℕ) (bytes : List ℕ) → IsBytes bytes → least ≤ length bytes → length bytes ≤ most → bytes_within least most (encode_lower bytes) ≡ Some bytes
bytes_within-back least most bytes h low high = rw (unhex-back bytes h, within least most (length bytes) low high) refl
