-- The nibbles of a key, and how far two keys agree.
use Rattle.std.specs.Prelude.{ℕ, Bool, cond, ◌+◌, ◌*◌, List, zero, suc}
use Rattle.std.specs.Bool.{beq}
use Rattle.jf_path.specs.Keys.{bit}

-- the number that a bit represents
abbrev pub bit_number : Bool → ℕ
bit_number b = cond b 1 0

-- nibble i of a key: its bits from 4 i to 4 i + 3, the highest first
unfoldable pub nibble : List ℕ → ℕ → ℕ
nibble key i = 8 * bit_number (bit key (4 * i)) + 4 * bit_number (bit key (4 * i + 1)) + 2 * bit_number (bit key (4 * i + 2)) + bit_number (bit key (4 * i + 3))

-- in how many bits two keys agree before they differ, of the n bits from bit i on
unfoldable pub common_from : ℕ → ℕ → List ℕ → List ℕ → ℕ
common_from zero i a b = 0
common_from (suc n) i a b = cond (beq (bit a i) (bit b i)) (1 + common_from n (i + 1) a b) 0

-- the number of leading bits in which two keys agree
unfoldable pub common_bits : List ℕ → List ℕ → ℕ
common_bits a b = common_from 256 0 a b
