-- Pairs of digits are read into room for their bytes, and judged by the greatest value that a digit had.
use Rattle.std.proofs.Common.{◌≡◌, ◌⊎◌, ℕ, ◌+◌, ◌*◌, ◌%◌, ◌<◌, ◌≤◌, List, Some, None, length, take, drop, get_or, set, inl, inr, ap, ◌∙◌, arith}
use Rattle.std.proofs.lemmas.Bool.{cases_lt}
use Rattle.jf_text.specs.Words.{both, byte_of, digit, unhex}
use Rattle.jf_text.proofs.HexText.{with_bytes_before, unhex-bad}
use Rattle.jf_text.proofs.HashText.{with_bytes_before-more}

-- of a word i pairs were read: if no value was 16 or more, they gave the first bytes; otherwise the word can't be read
abbrev pub ReadsPairs : List ℕ → ℕ → List ℕ → ℕ → Type 0
ReadsPairs w i out greatest = (greatest < 16 → unhex w ≡ with_bytes_before (take i out) (unhex (drop (2 * i) w))) × (16 ≤ greatest → unhex w ≡ None)

-- what a value tells of a digit
abbrev pub TellsDigit : ℕ → ℕ → Type 0
TellsDigit c v = (v < 16 → digit c ≡ Some v) × (16 ≤ v → digit c ≡ None)

abbrev joined : ℕ → ℕ → ℕ
joined high low = high * 16 + low

-- two digits are a byte, and anything else is none
two_digits : (c d high low : ℕ) → digit c ≡ Some high → digit d ≡ Some low → byte_of c d ≡ Some (high * 16 + low)
two_digits c d high low is_high is_low = ap (λ o. both joined o (digit d)) is_high ∙ ap (both joined (Some high)) is_low

no_first : (c d : ℕ) → digit c ≡ None → byte_of c d ≡ None
no_first c d none = ap (λ o. both joined o (digit d)) none

no_second : (c d high : ℕ) → digit c ≡ Some high → digit d ≡ None → byte_of c d ≡ None
no_second c d high is_high none = ap (λ o. both joined o (digit d)) is_high ∙ ap (both joined (Some high)) none

not_two : (c d high low : ℕ) → TellsDigit c high → TellsDigit d low → (16 ≤ high) ⊎ (16 ≤ low) → byte_of c d ≡ None
not_two c d high low first second (inl above) = no_first c d (first.1 above)
not_two c d high low first second (inr above) =
    elim (cases_lt high 16) [ inl below ↦ no_second c d high (first.0 below) (second.1 above) | inr rest ↦ no_first c d (first.1 (omega (arith, rest))) ]

-- one more pair is read
module _ (w out : List ℕ) (i greatest high low next : ℕ) (within : 2 * i + 1 < length w) (room : i < length out) (first : TellsDigit (get_or w (2 * i) 0) high) (second : TellsDigit (get_or w (2 * i + 1) 0) low)
    (least : (greatest ≤ next) × (high ≤ next) × (low ≤ next)) (one : (next ≡ greatest) ⊎ ((next ≡ high) ⊎ (next ≡ low))) (so_far : ReadsPairs w i out greatest) where
  byte : next < 16 → byte_of (get_or w (2 * i) 0) (get_or w (2 * i + 1) 0) ≡ Some (high % 16 * 16 + low % 16)
  byte below =
      let all = least in
      let same : high * 16 + low ≡ high % 16 * 16 + low % 16 = omega (arith, all.1, all.2) in
      two_digits (get_or w (2 * i) 0) (get_or w (2 * i + 1) 0) high low (first.0 (omega (arith, all.1))) (second.0 (omega (arith, all.2))) ∙ ap Some same

  refused : 16 ≤ next → unhex w ≡ None
  refused above =
      elim (cases_lt greatest 16) [
        | inl below ↦
            let one_is : (16 ≤ high) ⊎ (16 ≤ low) = elim one [ inl is ↦ absurd (omega (arith, is)) | inr o ↦ elim o [ inl is ↦ inl (omega (arith, is)) | inr is ↦ inr (omega (arith, is)) ] ] in
            unhex-bad w (take i out) i within (not_two (get_or w (2 * i) 0) (get_or w (2 * i + 1) 0) high low first second one_is) (so_far.0 below)
        | inr rest ↦ so_far.1 (omega (arith, rest))
      ]

  pub ReadsPairs-more : ReadsPairs w (i + 1) (set out i (high % 16 * 16 + low % 16)) next
  ReadsPairs-more = (λ below. let all = least in with_bytes_before-more w out i (high % 16 * 16 + low % 16) within room (byte below) (so_far.0 (omega (arith, all.0))), refused)
