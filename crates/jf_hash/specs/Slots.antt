-- The sixteen places of a node, and the hash of a range of them.
use Rattle.std.specs.Prelude.{ℕ, Bool, true, false, List, [], ◌∷◌, ◌==◌, filter, ◌+◌, ◌*◌, map, zero, suc, ◌^◌, take, drop, nat_le}
use Rattle.jf_path.specs.Nibbles.{nibble}
use Rattle.jf_hash.specs.Roots.{part_root}
use Rattle.jf_hash.specs.declared.slot.Slot.{Slot}
use Rattle.jf_hash.specs.Hashes.{E, N}
use Rattle.jf_hash.specs.declared.slot.Slot.TheVariants as slot

-- entries of a map, in the order of their keys
abbrev pub Part : Type 0
Part = List (List ℕ × List ℕ)

-- the sixteen nibbles in their order
abbrev pub all_nibbles : List ℕ
all_nibbles = 0 ∷ 1 ∷ 2 ∷ 3 ∷ 4 ∷ 5 ∷ 6 ∷ 7 ∷ 8 ∷ 9 ∷ 10 ∷ 11 ∷ 12 ∷ 13 ∷ 14 ∷ 15 ∷ []

-- the entries whose nibble d is i
abbrev pub with_nibble : {X : Type 0} → ℕ → ℕ → List (List ℕ × X) → List (List ℕ × X)
with_nibble d i es = filter (λ e. nibble e.0 d == i) es

-- what stands at a place whose entries agree in their first d bits: nothing, a leaf, or an internal node, with its hash
abbrev pub slot_of : ℕ → Part → Slot
slot_of d [] = slot.Absent
slot_of d (e ∷ []) = slot.Leaf (part_root d (e ∷ []))
slot_of d (e ∷ f ∷ es) = slot.Inner (part_root d (e ∷ f ∷ es))

-- the places of the node of a part whose keys agree in d nibbles: one for each nibble that may follow
unfoldable pub slots_of : ℕ → Part → List Slot
slots_of d es = map (λ i. slot_of (4 * (d + 1)) (with_nibble d i es)) all_nibbles

-- whether a child stands at a place
abbrev pub is_occupied : Slot → Bool
is_occupied slot.Absent = false
is_occupied (slot.Leaf hash) = true
is_occupied (slot.Inner hash) = true

-- whether a leaf stands at a place
abbrev pub holds_leaf : Slot → Bool
holds_leaf slot.Absent = false
holds_leaf (slot.Leaf hash) = true
holds_leaf (slot.Inner hash) = false

-- ---- a range of places
-- what a range holds: nothing, one leaf alone with its hash, or more; an internal node counts as more
pub data Occupants : Type 0 where
  Empty : Occupants
  Lone : List ℕ → Occupants
  Many : Occupants

-- what a range holds with one more leaf, of this hash
abbrev pub with_leaf : List ℕ → Occupants → Occupants
with_leaf hash Empty = Lone hash
with_leaf hash (Lone other) = Many
with_leaf hash Many = Many

-- what a list of places holds
abbrev pub occupants : List Slot → Occupants
occupants [] = Empty
occupants (slot.Absent ∷ slots) = occupants slots
occupants (slot.Leaf hash ∷ slots) = with_leaf hash (occupants slots)
occupants (slot.Inner hash ∷ slots) = Many

-- the hash of one place
abbrev pub place_hash : List Slot → List ℕ
place_hash [] = E
place_hash (slot.Absent ∷ slots) = E
place_hash (slot.Leaf hash ∷ slots) = hash
place_hash (slot.Inner hash ∷ slots) = hash

-- the hash of the first child of a list of places, or E without a child
abbrev pub first_child_hash : List Slot → List ℕ
first_child_hash [] = E
first_child_hash (slot.Absent ∷ slots) = first_child_hash slots
first_child_hash (slot.Leaf hash ∷ slots) = hash
first_child_hash (slot.Inner hash ∷ slots) = hash

-- the hash of a range by what it holds: E for nothing, a lone leaf's own hash, and `more` for more
abbrev pub occupants_hash : Occupants → List ℕ → List ℕ
occupants_hash Empty more = E
occupants_hash (Lone hash) more = hash
occupants_hash Many more = more

-- the hash of a range of 2 ^ level places: E without a child; a lone leaf's own hash; the hash of its only place; otherwise N of the hashes of its halves
unfoldable pub range_hash : ℕ → List Slot → List ℕ
range_hash zero slots = occupants_hash (occupants slots) (place_hash slots)
range_hash (suc level) slots = occupants_hash (occupants slots) (N (range_hash level (take (2 ^ level) slots)) (range_hash level (drop (2 ^ level) slots)))

-- the entries whose nibble at a depth is n or more
abbrev pub from_nibble : {X : Type 0} → ℕ → ℕ → List (List ℕ × X) → List (List ℕ × X)
from_nibble depth n es = filter (λ e. nat_le n (nibble e.0 depth)) es
