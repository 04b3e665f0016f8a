-- The items of a list that are there, of a part of a list that a bitmap spreads, and of what is kept of ranges.
use Rattle.std.specs.Prelude.{◌≡◌, ℕ, zero, suc, ◌+◌, ◌-◌, ◌^◌, Bool, true, false, cond, ◌⊎◌, Option, Some, None, List, [], ◌∷◌, ◌++◌, length, replicate, take, drop, map, is_some, slice_get, set}
use Rattle.std.specs.List.{count_by}
use Rattle.std.proofs.Common.{arith, refl, ap, ap₂, ◌∙◌, sym, inl, inr, append_assoc, length-append, pow-suc}
use Rattle.std.proofs.Math.Seq.{drop-nil, set-append_seam}
use Rattle.std.proofs.lemmas.List.{append-nil, map-append}
use Rattle.std.proofs.lemmas.Option.{slice_get-get_or}
use Rattle.jf_path.specs.Bitmaps.{present, spread_items}
use Rattle.jf_path.proofs.BitmapLaws.{count_by-set, count_by-clear}
use Rattle.jf_hash.specs.Slots.{occupants, first_child_hash, range_hash}
use Rattle.jf_hash.specs.Ranges.{is_many, kept_below, kept_hash, kept_hashes, kept_within}
use Rattle.jf_hash.specs.declared.slot.Slot.{Slot}
use Rattle.jf_hash.proofs.RangeLaws.{last_at, some_power}
use Rattle.jf_hash.proofs.KeptLaws.{kept_within-few, range_hash-few, range_hash-place}

-- ---- of two lists, and of nothing
pub present-append : {X : Type 0} (xs ys : List (Option X)) → present (xs ++ ys) ≡ present xs ++ present ys
unfolding present
present-append [] ys = refl
present-append (None ∷ xs) ys = present-append xs ys
present-append (Some x ∷ xs) ys = ap (λ t. x ∷ t) (present-append xs ys)

pub present-replicate : {X : Type 0} (n : ℕ) → present {X = X} (replicate n None) ≡ []
unfolding present
present-replicate zero = refl
present-replicate (suc n) = present-replicate n

-- ---- of a part of a list that a bitmap spreads
module _ {X : Type 0} where
  drop-spread : (m : ℕ) (bits : List Bool) (xs : List X) → drop m (spread_items bits xs) ≡ spread_items (drop m bits) (drop (count_by (λ bit. bit) (take m bits)) xs)
  unfolding spread_items
  drop-spread zero bits xs = refl
  drop-spread (suc m) [] xs = refl
  drop-spread (suc m) (false ∷ bits) xs = drop-spread m bits xs ∙ ap (λ n. spread_items (drop m bits) (drop n xs)) (sym (count_by-clear (take m bits)))
  drop-spread (suc m) (true ∷ bits) [] = drop-spread m bits [] ∙ ap (spread_items (drop m bits)) (drop-nil (count_by (λ bit. bit) (take m bits)) ∙ sym (drop-nil (count_by (λ bit. bit) (take (suc m) (true ∷ bits)))))
  drop-spread (suc m) (true ∷ bits) (x ∷ xs) = drop-spread m bits xs ∙ ap (λ n. spread_items (drop m bits) (drop n (x ∷ xs))) (sym (count_by-set (take m bits)))

  take-spread : (n : ℕ) (bits : List Bool) (xs : List X) → take n (spread_items bits xs) ≡ spread_items (take n bits) xs
  unfolding spread_items
  take-spread zero bits xs = refl
  take-spread (suc n) [] xs = refl
  take-spread (suc n) (false ∷ bits) xs = ap (λ t. None ∷ t) (take-spread n bits xs)
  take-spread (suc n) (true ∷ bits) [] = ap (λ t. None ∷ t) (take-spread n bits [])
  take-spread (suc n) (true ∷ bits) (x ∷ xs) = ap (λ t. Some x ∷ t) (take-spread n bits xs)

  none_taken : (n : ℕ) → take {A = X} n [] ≡ []
  none_taken zero = refl
  none_taken (suc n) = refl

  present-front : (bits : List Bool) (xs : List X) → present (spread_items bits xs) ≡ take (count_by (λ bit. bit) bits) xs
  unfolding spread_items present
  present-front [] xs = refl
  present-front (false ∷ bits) xs = present-front bits xs ∙ ap (λ n. take n xs) (sym (count_by-clear bits))
  present-front (true ∷ bits) [] = present-front bits [] ∙ none_taken (count_by (λ bit. bit) bits) ∙ sym (none_taken (count_by (λ bit. bit) (true ∷ bits)))
  present-front (true ∷ bits) (x ∷ xs) = ap (λ t. x ∷ t) (present-front bits xs) ∙ ap (λ n. take n (x ∷ xs)) (sym (count_by-set bits))

  -- those of n places from place m on are a run of the items
  pub present-run : (m n : ℕ) (bits : List Bool) (xs : List X) → take (count_by (λ bit. bit) (take n (drop m bits))) (drop (count_by (λ bit. bit) (take m bits)) xs) ≡ present (take n (drop m (spread_items bits xs)))
  present-run m n bits xs =
      sym (present-front (take n (drop m bits)) (drop (count_by (λ bit. bit) (take m bits)) xs))
      ∙ ap present (sym (take-spread n (drop m bits) (drop (count_by (λ bit. bit) (take m bits)) xs)) ∙ ap (take n) (sym (drop-spread m bits xs)))

-- ---- of what is kept of ranges
pub is_some-kept_hash : (level : ℕ) (slots : List Slot) → is_some (kept_hash level slots) ≡ is_many (occupants slots)
is_some-kept_hash level slots = at (is_many (occupants slots))
  where
    at : (many : Bool) → is_some (cond many (Some (range_hash level slots)) None) ≡ many
    at true = refl
    at false = refl

pub present-few : (level : ℕ) (slots : List Slot) → is_many (occupants slots) ≡ false → present (kept_within level slots) ≡ []
present-few level slots few = ap present (kept_within-few level slots few) ∙ present-replicate (2 ^ level - 1)

pub present-many : (level : ℕ) (slots : List Slot) → is_many (occupants slots) ≡ true
    → present (kept_within (suc level) slots) ≡ (present (kept_within level (take (2 ^ level) slots)) ++ present (kept_within level (drop (2 ^ level) slots))) ++ range_hash (suc level) slots ∷ []
unfolding kept_within present
present-many level slots many =
    let lefts = kept_within level (take (2 ^ level) slots) in
    let rights = kept_within level (drop (2 ^ level) slots) in
    present-append lefts (rights ++ kept_hash (suc level) slots ∷ []) ∙ ap (λ t. present lefts ++ t) (present-append rights (kept_hash (suc level) slots ∷ []))
    ∙ sym (append_assoc (present lefts) (present rights) (present (kept_hash (suc level) slots ∷ [])))
    ∙ ap (λ b. (present lefts ++ present rights) ++ present (cond b (Some (range_hash (suc level) slots)) None ∷ [])) many

-- the last of them is the hash of the whole range, if it is kept
last_there : {X : Type 0} (xs : List X) (x : X) → slice_get (xs ++ x ∷ []) (length (xs ++ x ∷ []) - 1) ≡ Some x
last_there xs x =
    let long = length-append xs (x ∷ []) in
    slice_get-get_or (xs ++ x ∷ []) (length (xs ++ x ∷ []) - 1) x (omega (arith, long)) ∙ ap Some (last_at xs x (length (xs ++ x ∷ []) - 1) x (omega (arith, long)))

pub last-many : (level : ℕ) (slots : List Slot) → is_many (occupants slots) ≡ true → slice_get (present (kept_within (suc level) slots)) (length (present (kept_within (suc level) slots)) - 1) ≡ Some (range_hash (suc level) slots)
last-many level slots many = ap (λ t. slice_get t (length t - 1)) (present-many level slots many) ∙ last_there (present (kept_within level (take (2 ^ level) slots)) ++ present (kept_within level (drop (2 ^ level) slots))) (range_hash (suc level) slots)

-- ---- the hash of a range, from the last that is kept
by_many : {P : Type 0} (slots : List Slot) → (is_many (occupants slots) ≡ true → P) → (is_many (occupants slots) ≡ false → P) → P
by_many {P} slots many few = elim (is_many (occupants slots)) as (λ b. is_many (occupants slots) ≡ b → P) [ true ↦ many | false ↦ few ] refl

-- the last of the hashes that are kept
abbrev last_of : List (List ℕ) → Option (List ℕ)
last_of kept = slice_get kept (length kept - 1)

pub hash-last : (level : ℕ) (slots : List Slot) (kept : List (List ℕ)) (hash : List ℕ) → kept ≡ present (kept_within level slots) → last_of kept ≡ Some hash → hash ≡ range_hash level slots
unfolding kept_within present
hash-last level slots kept hash are is = at level (ap last_of (sym are) ∙ is)
  where
    at : (level : ℕ) → last_of (present (kept_within level slots)) ≡ Some hash → hash ≡ range_hash level slots
    at zero is = absurd cc
    at (suc level) is = by_many slots (λ many. let e = sym is ∙ last-many level slots many in cc) (λ few. let e = ap last_of (sym (present-few (suc level) slots few)) ∙ is in absurd cc)

pub hash-no_last : (level : ℕ) (slots : List Slot) (kept : List (List ℕ)) → length slots ≡ 2 ^ level → kept ≡ present (kept_within level slots) → last_of kept ≡ None → first_child_hash slots ≡ range_hash level slots
hash-no_last zero slots kept long are is = range_hash-place slots (long ∙ refl)
hash-no_last (suc level) slots kept long are is = by_many slots (λ many. let e = sym (ap last_of (sym are) ∙ is) ∙ last-many level slots many in absurd cc) (range_hash-few (suc level) slots)

-- ---- a range that isn't hashed: one place, or no more than one leaf
abbrev pub IsNotHashed : ℕ → List Slot → Type 0
IsNotHashed level slots = (2 ^ level ≡ 1) ⊎ (is_many (occupants slots) ≡ false)

few_above : (level : ℕ) (slots : List Slot) → IsNotHashed (suc level) slots → is_many (occupants slots) ≡ false
few_above level slots why = elim why [ inl one ↦ absurd (omega (arith, pow-suc 2 level, some_power level)) | inr few ↦ few ]

pub hash-not_hashed : (level : ℕ) (slots : List Slot) → length slots ≡ 2 ^ level → IsNotHashed level slots → first_child_hash slots ≡ range_hash level slots
hash-not_hashed zero slots long why = range_hash-place slots (long ∙ refl)
hash-not_hashed (suc level) slots long why = range_hash-few (suc level) slots (few_above level slots why)

pub present-not_hashed : (level : ℕ) (slots : List Slot) → IsNotHashed level slots → present (kept_within level slots) ≡ []
unfolding kept_within present
present-not_hashed zero slots why = refl
present-not_hashed (suc level) slots why = present-few (suc level) slots (few_above level slots why)

-- ---- the bits of the ranges whose hashes are kept
pub bits-not_hashed : (level : ℕ) (slots : List Slot) → IsNotHashed level slots → map is_some (kept_within level slots) ≡ replicate (2 ^ level - 1) false
unfolding kept_within
bits-not_hashed zero slots why = refl
bits-not_hashed (suc level) slots why = ap (map is_some) (kept_within-few (suc level) slots (few_above level slots why)) ∙ all_clear (2 ^ suc level - 1)
  where
    all_clear : (n : ℕ) → map (is_some {T = List ℕ}) (replicate n None) ≡ replicate n false
    all_clear zero = refl
    all_clear (suc n) = ap (λ t. false ∷ t) (all_clear n)

pub bits-many : (level : ℕ) (slots : List Slot) → is_many (occupants slots) ≡ true
    → map is_some (kept_within (suc level) slots) ≡ (map is_some (kept_within level (take (2 ^ level) slots)) ++ map is_some (kept_within level (drop (2 ^ level) slots))) ++ true ∷ []
unfolding kept_within
bits-many level slots many =
    let lefts = kept_within level (take (2 ^ level) slots) in
    let rights = kept_within level (drop (2 ^ level) slots) in
    map-append is_some lefts (rights ++ kept_hash (suc level) slots ∷ []) ∙ ap (λ t. map is_some lefts ++ t) (map-append is_some rights (kept_hash (suc level) slots ∷ []))
    ∙ sym (append_assoc (map is_some lefts) (map is_some rights) (is_some (kept_hash (suc level) slots) ∷ []))
    ∙ ap (λ b. (map is_some lefts ++ map is_some rights) ++ b ∷ []) (is_some-kept_hash (suc level) slots ∙ many)

-- of all ranges: those of the fourteen, and two that are clear
pub bits-all : (slots : List Slot) → (map is_some (kept_within 3 (take 8 slots)) ++ map is_some (kept_within 3 (drop 8 slots))) ++ false ∷ false ∷ [] ≡ map is_some (kept_hashes slots)
bits-all slots =
    ap (λ t. t ++ false ∷ false ∷ []) (sym (map-append is_some (kept_within 3 (take 8 slots)) (kept_within 3 (drop 8 slots)))) ∙ sym (map-append is_some (kept_below slots) (None ∷ None ∷ []))

pub present-all : (slots : List Slot) → present (kept_within 3 (take 8 slots)) ++ present (kept_within 3 (drop 8 slots)) ≡ present (kept_hashes slots)
unfolding present
present-all slots =
    sym (present-append (kept_within 3 (take 8 slots)) (kept_within 3 (drop 8 slots))) ∙ sym (present-append (kept_below slots) (None ∷ None ∷ []) ∙ append-nil (present (kept_below slots)))

-- one bit more is set after some bits, where the rest is clear
pub set-next : (bits : List Bool) (i n m : ℕ) → length bits ≡ i → n ≡ m + 1 → set (bits ++ replicate n false) i true ≡ (bits ++ true ∷ []) ++ replicate m false
set-next bits i n m long is =
    ap₂ (λ k j. set (bits ++ replicate k false) j true) (is ∙ (let e : m + 1 ≡ suc m = omega arith in e)) (sym long) ∙ set-append_seam bits false (replicate m false) true
    ∙ sym (append_assoc bits (true ∷ []) (replicate m false))
