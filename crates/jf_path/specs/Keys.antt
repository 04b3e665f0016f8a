-- Keys, which are lists of 32 bytes: their bits and their order.
use Rattle.std.specs.Prelude.{◌≡◌, ℕ, ◌-◌, ◌/◌, ◌%◌, ◌^◌, ◌<◌, Bool, List, length, slice_index, ◌==◌}
use Rattle.std.specs.List.{AllByRecursion}
use Rattle.std.specs.Ordering.{nat_cmp}
use Rattle.std.specs.Cmp.Lexicographic.{slice_cmp}
use Rattle.std.specs.declared.cmp.Ordering.{Ordering}

-- bit i of a key: byte i / 8 has the bits from 8 * (i / 8) on, the highest first
unfoldable pub bit : List ℕ → ℕ → Bool
bit key i = slice_index key (i / 8) / 2 ^ (7 - i % 8) % 2 == 1

-- the order of keys: that of their lists of bytes
abbrev pub key_cmp : List ℕ → List ℕ → Ordering
key_cmp = slice_cmp nat_cmp

-- a key: 32 bytes
pub record IsKey (k : List ℕ) : Type 0 where
  pub long : length k ≡ 32
  pub bytes : (i : ℕ) → slice_index k i < 256

-- each number of the list is a byte
abbrev pub IsBytes : List ℕ → Type 0
IsBytes bytes = AllByRecursion (λ b. b < 256) bytes
