-- Paths from the root to a node, as nibbles and as bytes (docs/FORMATS.md, Names and nodes in bytes).
use Rattle.std.specs.Prelude.{◌<◌, ◌≤◌, length, map, ◌+◌, ◌*◌, Bool, true, not, ◌||◌, ◌==◌, nat_lt, false, ◌&&◌, slice_index, Option}
use Rattle.std.proofs.Common.{ℕ, ◌/◌, ◌%◌, List, [], ◌∷◌}
use Rattle.std.specs.List.{AllByRecursion, range_with_len}
use Rattle.jf_path.specs.Nibbles.{nibble}
use Rattle.jf_path.specs.Checks.{first_of}
use Rattle.jf_path.specs.declared.fault.PathFault.{PathFault}
use Rattle.jf_path.specs.declared.fault.PathFault.TheVariants.{Length, Padding}

-- the halves of bytes, the high half of each first
abbrev pub halves : List ℕ → List ℕ
halves [] = []
halves (b ∷ bytes) = b / 16 ∷ b % 16 ∷ halves bytes

-- a path: at most 64 nibbles
pub record IsPath (path : List ℕ) : Type 0 where
  pub short : length path ≤ 64
  pub nibbles : AllByRecursion (λ n. n < 16) path

-- the path of a key: all its 64 nibbles
unfoldable pub key_path : List ℕ → List ℕ
key_path key = map (nibble key) (range_with_len 0 64)

-- nibbles packed two to a byte, the first in the high half; an odd last byte has a zero low half
abbrev pub packed_nibbles : List ℕ → List ℕ
packed_nibbles [] = []
packed_nibbles (n ∷ []) = (n * 16) ∷ []
packed_nibbles (n ∷ m ∷ path) = (n * 16 + m) ∷ packed_nibbles path

-- the bytes of a path: its number of nibbles, and the nibbles packed
unfoldable pub path_bytes : List ℕ → List ℕ
path_bytes path = length path ∷ packed_nibbles path

-- whether the length is wrong: no count, a count above 64, or more or fewer bytes than it needs
abbrev pub has_wrong_length : List ℕ → Bool
has_wrong_length [] = true
has_wrong_length (count ∷ bytes) = nat_lt 64 count || not (length bytes == (count + 1) / 2)

-- whether there is padding: the count is odd, and the low half of the last byte isn't zero
abbrev pub has_padding : List ℕ → Bool
has_padding [] = false
has_padding (count ∷ bytes) = (count % 2 == 1) && not (slice_index bytes (count / 2) % 16 == 0)

-- why bytes are the bytes of no path, if they aren't
unfoldable pub path_fault : List ℕ → Option PathFault
path_fault bytes = first_of ((has_wrong_length bytes, Length) ∷ (has_padding bytes, Padding) ∷ [])
