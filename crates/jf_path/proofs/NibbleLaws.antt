-- A nibble of a key is half of one of its bytes.
use Rattle.std.proofs.Common.{◌≡◌, ℕ, zero, suc, ◌<◌, ◌==◌, refl, arith, ◌+◌, ◌*◌, ◌/◌, ◌%◌, ◌-◌, ◌^◌, List, slice_index, ap₂, ◌∙◌, Bool, true, false}
use Rattle.jf_path.specs.Nibbles.{bit_number, nibble}
use Rattle.jf_path.specs.Keys.{bit}

digit_is : (n : ℕ) → n < 2 → bit_number (n == 1) ≡ n
digit_is zero small = refl
digit_is (suc zero) small = refl
digit_is (suc (suc n)) small = absurd (omega arith)

-- the bit of weight 2 ^ k in byte p
bit_digit : (key : List ℕ) (p k j : ℕ) → k < 8 → j ≡ 8 * p + (7 - k) → bit_number (bit key j) ≡ slice_index key p / 2 ^ k % 2
unfolding bit
bit_digit key p k j small e =
    let byte : j / 8 ≡ p = omega arith in
    let place : 7 - j % 8 ≡ k = omega arith in
    ap₂ (λ q s. bit_number (slice_index key q / 2 ^ s % 2 == 1)) byte place ∙ digit_is (slice_index key p / 2 ^ k % 2) (omega arith)

-- an even nibble is the high half of a byte
pub nibble-even : (key : List ℕ) (i : ℕ) → slice_index key (i / 2) < 256 → i % 2 ≡ 0 → nibble key i ≡ slice_index key (i / 2) / 16
unfolding nibble
nibble-even key i byte e =
    let p = i / 2 in
    omega (arith, bit_digit key p 7 (4 * i) (omega arith) (omega arith), bit_digit key p 6 (4 * i + 1) (omega arith) (omega arith), bit_digit key p 5 (4 * i + 2) (omega arith) (omega arith), bit_digit key p 4 (4 * i + 3) (omega arith) (omega arith))

-- an odd nibble is the low half of a byte
pub nibble-odd : (key : List ℕ) (i : ℕ) → i % 2 ≡ 1 → nibble key i ≡ slice_index key (i / 2) % 16
unfolding nibble
nibble-odd key i e =
    let p = i / 2 in
    omega (arith, bit_digit key p 3 (4 * i) (omega arith) (omega arith), bit_digit key p 2 (4 * i + 1) (omega arith) (omega arith), bit_digit key p 1 (4 * i + 2) (omega arith) (omega arith), bit_digit key p 0 (4 * i + 3) (omega arith) (omega arith))

pub digit_small : (b : Bool) → bit_number b < 2
digit_small true = omega arith
digit_small false = omega arith

pub nibble-small : (key : List ℕ) (i : ℕ) → nibble key i < 16
unfolding nibble
nibble-small key i = omega (arith, digit_small (bit key (4 * i)), digit_small (bit key (4 * i + 1)), digit_small (bit key (4 * i + 2)), digit_small (bit key (4 * i + 3)))
