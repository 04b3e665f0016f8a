-- Each half of a byte of a key is a nibble, and each half of any byte is a number below 16.
use Rattle.std.proofs.Common.{◌≡◌, ℕ, ◌/◌, ◌%◌, List, get_or, ◌<◌, sym, ◌∙◌, arith, inl, inr}
use Rattle.std.proofs.lemmas.Bool.{cases_eq}
use Rattle.jf_path.specs.Nibbles.{nibble}
use Rattle.jf_path.specs.Paths.{halves}
use Rattle.jf_path.proofs.NibbleLaws.{nibble-even, nibble-odd}
use Rattle.jf_path.proofs.PathLaws.{get_or-halves-even, get_or-halves-odd}

-- n is half i of these bytes, from the high half of the first
pub record IsHalf (bytes : List ℕ) (i n : ℕ) : Type 0 where
  pub even : i % 2 ≡ 0 → n ≡ get_or bytes (i / 2) 0 / 16
  pub odd : i % 2 ≡ 1 → n ≡ get_or bytes (i / 2) 0 % 16

pub half_nibble : (key : List ℕ) (i n : ℕ) → get_or key (i / 2) 0 < 256 → IsHalf key i n → n ≡ nibble key i
half_nibble key i n byte half =
    elim (cases_eq (i % 2) 0) [
      | inl e ↦ half.even e ∙ sym (nibble-even key i byte e)
      | inr ne ↦ let o : i % 2 ≡ 1 = omega arith in half.odd o ∙ sym (nibble-odd key i o)
    ]

pub half_halves : (bytes : List ℕ) (i n : ℕ) → IsHalf bytes i n → get_or (halves bytes) i 0 ≡ n
half_halves bytes i n half =
    elim (cases_eq (i % 2) 0) [
      | inl e ↦ get_or-halves-even bytes (i / 2) i (omega arith) ∙ sym (half.even e)
      | inr ne ↦ let o : i % 2 ≡ 1 = omega arith in get_or-halves-odd bytes (i / 2) i (omega arith) ∙ sym (half.odd o)
    ]
