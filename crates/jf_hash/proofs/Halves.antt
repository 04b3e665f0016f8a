-- The hash of a range of places, from what stands in it and from the hashes of its halves.
use Rattle.std.specs.Prelude.{◌≡◌, ℕ, zero, suc, ◌-◌, ◌^◌, List, take, drop, ◌≤◌, [], ◌∷◌, length, slice_index_or, ◌+◌, ◌/◌, ◌<◌, ◌%◌}
use Rattle.std.proofs.Common.{ap, arith, ap₂, ◌∙◌, pow-suc, sym, length-take-le, length-drop, take-take, drop-drop}
use Rattle.std.proofs.lemmas.List.{drop-take}
use Rattle.jf_hash.specs.Hashes.{E, N}
use Rattle.jf_hash.specs.Slots.{Empty, occupants, occupants_hash, place_hash, range_hash, Lone, Many}
use Rattle.jf_hash.specs.declared.slot.Slot.{Slot}
use Rattle.jf_hash.specs.Ranges.{IsRange}
use Rattle.jf_hash.proofs.RangeLaws.{some_power, fits_all, range_level}

-- the hash of a range with no more than one leaf doesn't come from its halves
pub range_hash-empty : (level : ℕ) (slots : List Slot) → Empty ≡ occupants slots → E ≡ range_hash level slots
unfolding range_hash
range_hash-empty zero slots is = ap (λ s. occupants_hash s (place_hash slots)) is
range_hash-empty (suc level) slots is = ap (λ s. occupants_hash s (N (range_hash level (take (2 ^ level) slots)) (range_hash level (drop (2 ^ level) slots)))) is

pub range_hash-lone : (level : ℕ) (slots : List Slot) (hash : List ℕ) → Lone hash ≡ occupants slots → hash ≡ range_hash level slots
unfolding range_hash
range_hash-lone zero slots hash is = ap (λ s. occupants_hash s (place_hash slots)) is
range_hash-lone (suc level) slots hash is = ap (λ s. occupants_hash s (N (range_hash level (take (2 ^ level) slots)) (range_hash level (drop (2 ^ level) slots)))) is

-- the hash of a range of one place
pub range_hash-one : (level : ℕ) (slots : List Slot) (d : Slot) → Many ≡ occupants slots → length slots ≡ 1 → length slots ≡ 2 ^ level → level ≤ 4 → place_hash (slice_index_or slots 0 d ∷ []) ≡ range_hash level slots
unfolding range_hash
range_hash-one zero [] d is one long small = absurd (omega arith)
range_hash-one zero (place ∷ []) d is one long small = ap (λ s. occupants_hash s (place_hash (place ∷ []))) is
range_hash-one zero (place ∷ other ∷ slots) d is one long small = absurd (omega arith)
range_hash-one (suc zero) slots d is one long small = absurd (omega arith)
range_hash-one (suc (suc zero)) slots d is one long small = absurd (omega arith)
range_hash-one (suc (suc (suc zero))) slots d is one long small = absurd (omega arith)
range_hash-one (suc (suc (suc (suc zero)))) slots d is one long small = absurd (omega arith)
range_hash-one (suc (suc (suc (suc (suc n))))) slots d is one long small = absurd (omega arith)

-- `half` is the width of each half of a range of 2 ^ level places, two or more
pub record IsHalfOfRange (level half : ℕ) : Type 0 where
  pub is : half ≡ 2 ^ (level - 1)
  pub twice : 2 ^ level ≡ half + half
  pub some : 1 ≤ half

pub halves : (level n : ℕ) → level ≤ 4 → 0 < level → n ≡ 2 ^ level → IsHalfOfRange level (n / 2)
halves zero n small some is = absurd (omega arith)
halves (suc zero) n small some is = record { is = omega arith; twice = omega arith; some = omega arith }
halves (suc (suc zero)) n small some is = record { is = omega arith; twice = omega arith; some = omega arith }
halves (suc (suc (suc zero))) n small some is = record { is = omega arith; twice = omega arith; some = omega arith }
halves (suc (suc (suc (suc zero)))) n small some is = record { is = omega arith; twice = omega arith; some = omega arith }
halves (suc (suc (suc (suc (suc n))))) m small some is = absurd (omega arith)

-- the hash of a range, from those of its halves
pub range_hash-halves : (level half : ℕ) (slots : List Slot) → 0 < level → half ≡ 2 ^ (level - 1)
    → occupants_hash (occupants slots) (N (range_hash (level - 1) (take half slots)) (range_hash (level - 1) (drop half slots))) ≡ range_hash level slots
unfolding range_hash
range_hash-halves zero half slots some is = absurd (omega arith)
range_hash-halves (suc level) half slots some is =
    let e : suc level - 1 ≡ level = omega arith in
    let h : half ≡ 2 ^ level = is ∙ ap (λ k. 2 ^ k) e in
    ap₂ (λ k n. occupants_hash (occupants slots) (N (range_hash k (take n slots)) (range_hash k (drop n slots)))) e h

-- a range that isn't one place has halves
pub not_one : (level n : ℕ) → n ≡ 2 ^ level → ¬ (n ≡ 1) → 0 < level
not_one zero n is other = absurd (other is)
not_one (suc level) n is other = omega arith

small_level : (level : ℕ) → 2 ^ level ≤ 16 → level ≤ 4
small_level zero h = omega arith
small_level (suc zero) h = omega arith
small_level (suc (suc zero)) h = omega arith
small_level (suc (suc (suc zero))) h = omega arith
small_level (suc (suc (suc (suc zero)))) h = omega arith
small_level (suc (suc (suc (suc (suc n))))) h =
    absurd (omega (arith, some_power n, pow-suc 2 n, pow-suc 2 (suc n), pow-suc 2 (suc (suc n)), pow-suc 2 (suc (suc (suc n))), pow-suc 2 (suc (suc (suc (suc n))))))

-- a range lies within the sixteen places
pub range_within : (start width : ℕ) → IsRange start width → start + width ≤ 16
range_within start width range =
    let l = range_level start width range in
    omega (arith, l.2, fits_all l.0 start l.1 (sym (ap (λ w. start % w) l.2) ∙ range.aligned) range.within)

-- the level of a range is at most 4
pub small_range : (start width level : ℕ) → IsRange start width → width ≡ 2 ^ level → level ≤ 4
small_range start width level range is = small_level level (omega (arith, is, range_within start width range))

pub length-places : {X : Type 0} (start width : ℕ) (xs : List X) → length xs ≡ 16 → start + width ≤ 16 → length (take width (drop start xs)) ≡ width
length-places start width xs long within = length-take-le width (drop start xs) (omega (arith, length-drop start xs))

-- ---- the halves of a range of a longer list
pub left_half : {X : Type 0} (half width start : ℕ) (xs : List X) → half + half ≡ width → take half (drop start xs) ≡ take half (take width (drop start xs))
left_half half width start xs both = sym (take-take half width (drop start xs) (omega arith))

pub right_half : {X : Type 0} (half width start : ℕ) (xs : List X) → half + half ≡ width → take (width - half) (drop (start + half) xs) ≡ drop half (take width (drop start xs))
right_half half width start xs both =
    ap (take (width - half)) (sym (drop-drop half start xs)) ∙ sym (drop-take half (width - half) (drop start xs)) ∙ ap (λ n. drop half (take n (drop start xs))) (let e : half + (width - half) ≡ width = omega arith in e)

-- a range as the program cuts it
pub whole_range : {X : Type 0} (start width : ℕ) (xs : List X) → take (start + width - start) (drop start xs) ≡ take width (drop start xs)
whole_range start width xs = ap (λ n. take n (drop start xs)) (let e : start + width - start ≡ width = omega arith in e)
