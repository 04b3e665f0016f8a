-- Digits that are read as bytes are those that write the bytes.
use Rattle.std.proofs.Common.{◌≡◌, ℕ, zero, suc, ◌<◌, ◌+◌, ◌*◌, ◌/◌, ◌%◌, ◌&&◌, ◌==◌, Bool, true, List, [], ◌∷◌, Option, Some, None, inl, inr, slice_index, refl, sym, ap, ◌∙◌, arith}
use Rattle.std.proofs.lemmas.Bool.{and_parts, cases_lt, eqb-true}
use Rattle.std.proofs.lemmas.Bool.Decides.{nat_tests}
use Rattle.hex.specs.Hex.{encode_with, encode_lower, lower_digits}
use Rattle.jf_text.specs.Words.{both, digit, byte_of, unhex}

-- ---- one digit
abbrev is_written_back : ℕ → Option ℕ → Bool
is_written_back c None = true
is_written_back c (Some d) = slice_index lower_digits d == c

abbrev are_written_back : ℕ → Bool
are_written_back zero = true
are_written_back (suc n) = is_written_back n (digit n) && are_written_back n

written_back_below : (m n : ℕ) → are_written_back m ≡ true → n < m → is_written_back n (digit n) ≡ true
written_back_below zero n h lt = absurd (omega arith)
written_back_below (suc m) n h lt =
    let parts = and_parts (is_written_back m (digit m)) (are_written_back m) h in
    elim (cases_lt n m) [
      | inl below ↦ written_back_below m n parts.1 below
      | inr top ↦ let e : n ≡ m = omega arith in rw e parts.0
    ]

digit-small : (c d : ℕ) → digit c ≡ Some d → (c < 103) × (d < 16)
digit-small c d h = grind (arith, nat_tests)

slice_index-digit : (c d : ℕ) → digit c ≡ Some d → slice_index lower_digits d ≡ c
slice_index-digit c d h =
    let back : is_written_back c (Some d) ≡ true = ap (is_written_back c) (sym h) ∙ written_back_below 103 c refl (digit-small c d h).0 in
    eqb-true (slice_index lower_digits d) c back

-- ---- a byte
both-parts : {X Y Z : Type 0} (f : X → Y → Z) (a : Option X) (b : Option Y) (z : Z) → both f a b ≡ Some z → (x : X) × (y : Y) × (a ≡ Some x) × (b ≡ Some y) × (z ≡ f x y)
both-parts f None b z h = absurd (cc)
both-parts f (Some x) None z h = absurd (cc)
both-parts f (Some x) (Some y) z h = (x, y, refl, refl, cc)

byte-digits : (high low b : ℕ) → byte_of high low ≡ Some b → (slice_index lower_digits (b / 16) ≡ high) × (slice_index lower_digits (b % 16) ≡ low)
byte-digits high low b h =
    let p = both-parts (λ (h l : ℕ). h * 16 + l) (digit high) (digit low) b h in
    let small = (digit-small low p.1 p.3).1 in
    let top : b / 16 ≡ p.0 = omega (arith, p.4, small) in
    let rest : b % 16 ≡ p.1 = omega (arith, p.4, small) in
    (ap (slice_index lower_digits) top ∙ slice_index-digit high p.0 p.2, ap (slice_index lower_digits) rest ∙ slice_index-digit low p.1 p.3)

-- ---- a word
pub encode_lower-unhex : (w bytes : List ℕ) → unhex w ≡ Some bytes → encode_lower bytes ≡ w
unfolding unhex encode_with
encode_lower-unhex [] bytes h = let e : bytes ≡ [] = cc in rw e refl
encode_lower-unhex (high ∷ []) bytes h = absurd (cc)
encode_lower-unhex (high ∷ low ∷ rest) bytes h =
    let p = both-parts ◌∷◌ (byte_of high low) (unhex rest) bytes h in
    let d = byte-digits high low p.0 p.2 in
    rw (p.4, d.0, d.1, encode_lower-unhex rest p.1 p.3) refl
