-- What is kept of a range tells its hash, and of a range without more than one leaf nothing is kept.
use Rattle.std.specs.Prelude.{◌≡◌, ℕ, zero, suc, ◌+◌, ◌-◌, ◌^◌, ◌&&◌, Bool, true, false, cond, Some, None, IfSome, List, [], ◌∷◌, ◌++◌, length, replicate, take, drop}
use Rattle.std.proofs.Common.{arith, refl, ap, ap₂, ◌∙◌, sym, pow-suc}
use Rattle.std.proofs.lemmas.List.{replicate-append-replicate}
use Rattle.jf_hash.specs.Slots.{Occupants, Empty, Lone, Many, with_leaf, occupants, occupants_hash, first_child_hash, range_hash}
use Rattle.jf_hash.specs.Ranges.{is_many, has_change, kept_within, pairs_within}
use Rattle.jf_hash.specs.declared.slot.Slot.{Slot}
use Rattle.jf_hash.specs.declared.slot.Slot.TheVariants as slot
use Rattle.jf_hash.proofs.RangeLaws.{some_power}

-- ---- no more than one leaf
leaf_alone : (hash : List ℕ) (o : Occupants) → is_many (with_leaf hash o) ≡ false → o ≡ Empty
leaf_alone hash Empty few = refl
leaf_alone hash (Lone other) few = absurd cc
leaf_alone hash Many few = absurd cc

not_empty : (hash : List ℕ) (o : Occupants) → with_leaf hash o ≡ Empty → ⊥
not_empty hash Empty e = cc
not_empty hash (Lone other) e = cc
not_empty hash Many e = cc

empty-take : (n : ℕ) (slots : List Slot) → occupants slots ≡ Empty → occupants (take n slots) ≡ Empty
empty-take zero slots e = refl
empty-take (suc n) [] e = refl
empty-take (suc n) (slot.Absent ∷ slots) e = empty-take n slots e
empty-take (suc n) (slot.Leaf hash ∷ slots) e = absurd (not_empty hash (occupants slots) e)
empty-take (suc n) (slot.Inner hash ∷ slots) e = absurd cc

pub few-take : (n : ℕ) (slots : List Slot) → is_many (occupants slots) ≡ false → is_many (occupants (take n slots)) ≡ false
few-take zero slots few = refl
few-take (suc n) [] few = refl
few-take (suc n) (slot.Absent ∷ slots) few = few-take n slots few
few-take (suc n) (slot.Leaf hash ∷ slots) few = ap (λ o. is_many (with_leaf hash o)) (empty-take n slots (leaf_alone hash (occupants slots) few))
few-take (suc n) (slot.Inner hash ∷ slots) few = absurd cc

pub few-drop : (n : ℕ) (slots : List Slot) → is_many (occupants slots) ≡ false → is_many (occupants (drop n slots)) ≡ false
few-drop zero slots few = few
few-drop (suc n) [] few = refl
few-drop (suc n) (slot.Absent ∷ slots) few = few-drop n slots few
few-drop (suc n) (slot.Leaf hash ∷ slots) few = few-drop n slots (ap is_many (leaf_alone hash (occupants slots) few))
few-drop (suc n) (slot.Inner hash ∷ slots) few = absurd cc

-- nothing is kept within such a range
pub kept_within-few : (level : ℕ) (slots : List Slot) → is_many (occupants slots) ≡ false → kept_within level slots ≡ replicate (2 ^ level - 1) None
unfolding kept_within
kept_within-few zero slots few = refl
kept_within-few (suc level) slots few =
    ap₂ (λ xs ys. xs ++ ys) (kept_within-few level (take (2 ^ level) slots) (few-take (2 ^ level) slots few))
    (ap₂ (λ xs x. xs ++ x ∷ []) (kept_within-few level (drop (2 ^ level) slots) (few-drop (2 ^ level) slots few)) (ap (λ b. cond b (Some (range_hash (suc level) slots)) None) few))
    ∙ ap (λ xs. replicate (2 ^ level - 1) None ++ xs) (replicate-append-replicate (2 ^ level - 1) 1 None) ∙ replicate-append-replicate (2 ^ level - 1) (2 ^ level - 1 + 1) None
    ∙ ap (λ n. replicate n None) (let e : 2 ^ level - 1 + (2 ^ level - 1 + 1) ≡ 2 ^ suc level - 1 = omega (arith, pow-suc 2 level, some_power level) in e)

-- no pair is hashed for it
pub pairs_within-few : (level : ℕ) (slots : List Slot) (changes : List Bool) → is_many (occupants slots) ≡ false → pairs_within level slots changes ≡ 0
unfolding pairs_within
pairs_within-few zero slots changes few = refl
pairs_within-few (suc level) slots changes few =
    omega (
      arith,
      pairs_within-few level (take (2 ^ level) slots) (take (2 ^ level) changes) (few-take (2 ^ level) slots few),
      pairs_within-few level (drop (2 ^ level) slots) (drop (2 ^ level) changes) (few-drop (2 ^ level) slots few),
      not_here (has_change changes) (is_many (occupants slots)) few,
    )
  where
    not_here : (a b : Bool) → b ≡ false → cond {A = ℕ} (a && b) 1 0 ≡ 0
    not_here true true is = absurd cc
    not_here true false is = refl
    not_here false b is = refl

-- its hash is that of its first child
first_child_hash-few : (slots : List Slot) (more : List ℕ) → is_many (occupants slots) ≡ false → first_child_hash slots ≡ occupants_hash (occupants slots) more
first_child_hash-few [] more few = refl
first_child_hash-few (slot.Absent ∷ slots) more few = first_child_hash-few slots more few
first_child_hash-few (slot.Leaf hash ∷ slots) more few = ap (λ o. occupants_hash (with_leaf hash o) more) (sym (leaf_alone hash (occupants slots) few))
first_child_hash-few (slot.Inner hash ∷ slots) more few = absurd cc

pub range_hash-few : (level : ℕ) (slots : List Slot) → is_many (occupants slots) ≡ false → first_child_hash slots ≡ range_hash level slots
unfolding range_hash
range_hash-few zero slots few = first_child_hash-few slots _ few
range_hash-few (suc level) slots few = first_child_hash-few slots _ few

-- ---- one place
pub range_hash-place : (slots : List Slot) → length slots ≡ 1 → first_child_hash slots ≡ range_hash 0 slots
unfolding range_hash
range_hash-place [] long = absurd (omega arith)
range_hash-place (slot.Absent ∷ []) long = refl
range_hash-place (slot.Leaf hash ∷ []) long = refl
range_hash-place (slot.Inner hash ∷ []) long = refl
range_hash-place (place ∷ other ∷ slots) long = absurd (omega arith)

-- ---- what is kept is the hash
pub kept_is : (many : Bool) (hash root : List ℕ) → hash ≡ root → IfSome (cond many (Some hash) None) (λ kept. kept ≡ root)
kept_is true hash root e = e
kept_is false hash root e = tt
