-- Reading from left to right: a value and the bytes after it, or the first fault.
use Rattle.std.specs.Prelude.{Result, Ok, Err, ◌≡◌, ◌⊎◌, ℕ, List, length, take, drop, nat_lt, if◌then◌else◌, ◌+◌, ◌/◌, ◌∷◌, [], Bool, ◌==◌, not, ◌&&◌, ◌||◌, bit_and, zero, suc, ◌-◌}
use Rattle.std.specs.Bool.{beq}
use Rattle.std.specs.Int.{Width, byte_len, from_be_bytes, w16, w32, w64, bit_at, is_power_of_two}
use Rattle.jf_path.specs.Paths.{has_padding, halves}
use Rattle.jf_path.specs.declared.name.NodeName.{NodeName}
use Rattle.jf_path.specs.Limits.{max_value}
use Rattle.jf_path.specs.declared.node.PlainNode.{PlainNode}
use Rattle.jf_path.specs.declared.children.Child.{Child}
use Rattle.jf_path.specs.declared.node.PlainNode.TheVariants as node
use Rattle.jf_codec.specs.declared.fault.CodecFault.{CodecFault}
use Rattle.jf_codec.specs.declared.format.Format.{Format}
use Rattle.jf_codec.specs.declared.fault.CodecFault.TheVariants as fault
use Rattle.jf_codec.specs.declared.format.Format.TheVariants as format

-- what reading gives: a value, or a fault
abbrev pub ReadOrFault : Type 0 → Type 0
ReadOrFault A = Result A CodecFault

infixl 10 ◌>>=◌
-- a step and then the next one, if the first step reads something
abbrev pub ◌>>=◌ : {A B : Type 0} → Result A CodecFault → (A → Result B CodecFault) → Result B CodecFault
(Ok x) >>= f = f x
(Err e) >>= f = Err e

-- a function returned what reading gives, seen through `view`
abbrev pub Reads : {X Y : Type 0} → (X → Y) → Result X CodecFault → Result Y CodecFault → Type 0
Reads view (Ok x) read = read ≡ Ok (view x)
Reads view (Err e) read = read ≡ Err e

-- a function returned what reading gives, or `Memory`
abbrev pub ReadsGivenMemory : {X Y : Type 0} → (X → Y) → Result X CodecFault → Result Y CodecFault → Type 0
ReadsGivenMemory view (Ok x) read = read ≡ Ok (view x)
ReadsGivenMemory view (Err e) read = (e ≡ fault.Memory) ⊎ (read ≡ Err e)

-- ---- fields
-- the first n bytes
abbrev pub bytes_at : ℕ → List ℕ → Result (List ℕ × List ℕ) CodecFault
bytes_at n bytes = if nat_lt (length bytes) n then Err fault.Short else Ok (take n bytes, drop n bytes)

-- a number of the given width, the highest byte first
abbrev pub number_at : Width → List ℕ → Result (ℕ × List ℕ) CodecFault
number_at w bytes = if nat_lt (length bytes) (byte_len w) then Err fault.Short else Ok (from_be_bytes w (take (byte_len w) bytes), drop (byte_len w) bytes)

-- a number in two, four or eight bytes
unfoldable pub two_at : List ℕ → Result (ℕ × List ℕ) CodecFault
two_at bytes = number_at w16 bytes

unfoldable pub four_at : List ℕ → Result (ℕ × List ℕ) CodecFault
four_at bytes = number_at w32 bytes

unfoldable pub eight_at : List ℕ → Result (ℕ × List ℕ) CodecFault
eight_at bytes = number_at w64 bytes

-- ---- names
-- a path's nibbles, two a byte, with a zero low half after an odd number of them
unfoldable pub nibbles_at : ℕ → List ℕ → Result (List ℕ × List ℕ) CodecFault
nibbles_at count bytes = do
  packed ← bytes_at ((count + 1) / 2) bytes
  if has_padding (count ∷ packed.0) then Err fault.Path else Ok (take count (halves packed.0), packed.1)

-- a path: its count of nibbles, then the nibbles
unfoldable pub path_at : List ℕ → Result (List ℕ × List ℕ) CodecFault
path_at [] = Err fault.Short
path_at (count ∷ bytes) = if nat_lt 64 count then Err fault.Path else nibbles_at count bytes

-- a name: its version in eight bytes, then its path
unfoldable pub name_at : List ℕ → Result (NodeName × List ℕ) CodecFault
name_at bytes = do
  version ← eight_at bytes
  path ← path_at version.1
  Ok (record { version = version.0; path = path.0 }, path.1)

-- ---- leaves
-- a value: its length in four bytes, at most 4,096, then its bytes
unfoldable pub value_at : List ℕ → Result (List ℕ × List ℕ) CodecFault
value_at bytes = do
  n ← four_at bytes
  if nat_lt max_value n.0 then Err fault.Length else bytes_at n.0 n.1

-- a leaf, after its tag: its key of 32 bytes, then its value
unfoldable pub leaf_at : List ℕ → Result (PlainNode × List ℕ) CodecFault
leaf_at bytes = do
  key ← bytes_at 32 bytes
  value ← value_at key.1
  Ok (node.Leaf key.0 value.0, value.1)

-- ---- internal nodes
-- the bitmap has the bit of nibble i
unfoldable pub has : ℕ → ℕ → Bool
has bits i = bit_at bits i == 1

-- there is no child, a leaf bit without a child, or a single child that is a leaf
unfoldable pub are_wrong : ℕ → ℕ → Bool
are_wrong exist leaf = (exist == 0) || not (bit_and exist leaf == leaf) || (is_power_of_two exist && (leaf == exist))

-- the two bitmaps of an internal node
unfoldable pub bitmaps_at : List ℕ → Result ((ℕ × ℕ) × List ℕ) CodecFault
bitmaps_at bytes = do
  exist ← two_at bytes
  leaf ← two_at exist.1
  if are_wrong exist.0 leaf.0 then Err fault.Bitmap else Ok ((exist.0, leaf.0), leaf.1)

-- a count of a child is wrong: it is 0, or it isn't 1 just for a leaf
abbrev pub is_wrong_count : Bool → ℕ → Bool
is_wrong_count leaf count = (count == 0) || not (beq leaf (count == 1))

-- the count of a child; 0 in format 1
unfoldable pub count_at : Format → Bool → List ℕ → Result (ℕ × List ℕ) CodecFault
count_at format.One leaf bytes = Ok (0, bytes)
count_at format.Two leaf bytes = do
  count ← eight_at bytes
  if is_wrong_count leaf count.0 then Err fault.Count else Ok count

-- a child: its version, its count in format 2, and its hash
unfoldable pub child_at : Format → ℕ → Bool → List ℕ → Result (Child × List ℕ) CodecFault
child_at fmt nibble leaf bytes = do
  version ← eight_at bytes
  count ← count_at fmt leaf version.1
  hash ← bytes_at 32 count.1
  Ok (record { nibble = nibble; version = version.0; hash = hash.0; leaf = leaf; count = count.0 }, hash.1)

-- the children at the n nibbles from i on
unfoldable pub children_at : Format → ℕ → ℕ → ℕ → ℕ → List ℕ → Result (List Child × List ℕ) CodecFault
children_at fmt exist leaf zero i bytes = Ok ([], bytes)
children_at fmt exist leaf (suc n) i bytes =
    if has exist i then (child_at fmt i (has leaf i) bytes >>= λ c. children_at fmt exist leaf n (i + 1) c.1 >>= λ cs. Ok (c.0 ∷ cs.0, cs.1)) else children_at fmt exist leaf n (i + 1) bytes

-- an internal node, after its tag: the two bitmaps, then each child in ascending order
unfoldable pub inner_at : Format → List ℕ → Result (PlainNode × List ℕ) CodecFault
inner_at fmt bytes = do
  bits ← bitmaps_at bytes
  cs ← children_at fmt bits.0.0 bits.0.1 16 0 bits.1
  Ok (node.Inner cs.0, cs.1)

-- ---- nodes
-- a node: its tag, and what follows it
unfoldable pub node_at : List ℕ → Result (PlainNode × List ℕ) CodecFault
node_at [] = Err fault.Short
node_at (zero ∷ bytes) = Ok (node.Null, bytes)
node_at (suc zero ∷ bytes) = leaf_at bytes
node_at (suc (suc zero) ∷ bytes) = inner_at format.One bytes
node_at (suc (suc (suc zero)) ∷ bytes) = inner_at format.Two bytes
node_at (suc (suc (suc (suc tag))) ∷ bytes) = Err fault.Tag

-- a node that takes all of the bytes
unfoldable pub whole_in : List ℕ → Result PlainNode CodecFault
whole_in bytes = do
  n ← node_at bytes
  if length n.1 == 0 then Ok n.0 else Err fault.Rest

-- what is read, with the number of bytes that it takes
abbrev pub reading_with_length : {A : Type 0} → List ℕ → Result (A × List ℕ) CodecFault → Result (A × ℕ) CodecFault
reading_with_length bytes read = read >>= λ x. Ok (x.0, length bytes - length x.1)
