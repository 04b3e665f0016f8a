-- Ranges of the places of a node: which there are, the entries of the part that stand in one, and the hashes that are kept of them.
use Rattle.std.specs.Prelude.{◌≡◌, ℕ, zero, suc, ◌+◌, ◌-◌, ◌/◌, ◌%◌, ◌^◌, ◌<◌, Bool, true, false, cond, ◌&&◌, ◌||◌, ◌⊎◌, nat_le, nat_lt, Option, Some, None, List, [], ◌∷◌, ◌++◌, filter, take, drop}
use Rattle.jf_path.specs.Nibbles.{nibble}
use Rattle.jf_hash.specs.Slots.{Occupants, Empty, Lone, Many, occupants, range_hash}
use Rattle.jf_hash.specs.declared.slot.Slot.{Slot}
use Rattle.jf_hash.specs.declared.occupancy.Occupancy.{Occupancy}
use Rattle.jf_hash.specs.declared.occupancy.Occupancy.TheVariants as occupancy

-- a range of 1, 2, 4, 8 or all 16 places, which begins at a multiple of its width
pub record IsRange (start width : ℕ) : Type 0 where
  pub wide : (width ≡ 1) ⊎ (width ≡ 2) ⊎ (width ≡ 4) ⊎ (width ≡ 8) ⊎ (width ≡ 16)
  pub aligned : start % width ≡ 0
  pub within : start < 16

-- whether a place lies in a range
abbrev pub lies_in : ℕ → ℕ → ℕ → Bool
lies_in start width place = nat_le start place && nat_lt place (start + width)

-- the entries whose nibble d lies in a range of places
abbrev pub in_range : {X : Type 0} → ℕ → ℕ → ℕ → List (List ℕ × X) → List (List ℕ × X)
in_range d start width es = filter (λ e. lies_in start width (nibble e.0 d)) es

-- whether a range holds more than one leaf
abbrev pub is_many : Occupants → Bool
is_many Empty = false
is_many (Lone hash) = false
is_many Many = true

-- what a range holds, from what the program found in it
abbrev pub occupants_found : Occupancy → Occupants
occupants_found occupancy.Empty = Empty
occupants_found (occupancy.Lone hash) = Lone hash
occupants_found occupancy.Many = Many

-- the hash that is kept of a range of 2 ^ level places: none if it holds one leaf alone or nothing
abbrev pub kept_hash : ℕ → List Slot → Option (List ℕ)
kept_hash level slots = cond (is_many (occupants slots)) (Some (range_hash level slots)) None

-- what is kept of the ranges of two places or more among 2 ^ level, each after its halves
unfoldable pub kept_within : ℕ → List Slot → List (Option (List ℕ))
kept_within zero slots = []
kept_within (suc level) slots = kept_within level (take (2 ^ level) slots) ++ (kept_within level (drop (2 ^ level) slots) ++ kept_hash (suc level) slots ∷ [])

-- what is kept of the ranges of two to eight places among sixteen: those of the first eight, and then of the last
abbrev pub kept_below : List Slot → List (Option (List ℕ))
kept_below slots = kept_within 3 (take 8 slots) ++ kept_within 3 (drop 8 slots)

-- what a node keeps of the ranges of its sixteen places: fourteen, and the last two of sixteen are always empty
abbrev pub kept_hashes : List Slot → List (Option (List ℕ))
kept_hashes slots = kept_below slots ++ None ∷ None ∷ []

-- the place of a range among the fourteen: after the ranges before it and within it
abbrev pub range_index : ℕ → ℕ → ℕ
range_index start width = start / 2 + start / 4 + start / 8 + (width - 2)

-- places that didn't change are as before
abbrev pub Agree : List Slot → List Bool → List Slot → Type 0
Agree [] [] [] = Unit {0}
Agree (o ∷ olds) (c ∷ changed) (s ∷ slots) = (c ≡ false → o ≡ s) × Agree olds changed slots
Agree olds changed slots = ⊥

-- whether a place changed
abbrev pub has_change : List Bool → Bool
has_change [] = false
has_change (change ∷ changes) = change || has_change changes

-- how many ranges of two places or more, among 2 ^ level places, have a changed place and more than one leaf
unfoldable pub pairs_within : ℕ → List Slot → List Bool → ℕ
pairs_within zero slots changes = 0
pairs_within (suc level) slots changes =
    pairs_within level (take (2 ^ level) slots) (take (2 ^ level) changes) + pairs_within level (drop (2 ^ level) slots) (drop (2 ^ level) changes) + cond (has_change changes && is_many (occupants slots)) 1 0
