-- The hashes that a node keeps of its ranges: where each stands in the list, and which are unchanged.
use Rattle.std.specs.Prelude.{◌≡◌, Bool, true, false, Option, None, List, [], ◌∷◌, ℕ, zero, suc, take, drop, length, replicate, ◌-◌, ◌^◌, ◌≤◌, ◌+◌, ◌++◌, ◌<◌, map, is_some}
use Rattle.jf_path.specs.Bitmaps.{present}
use Rattle.std.proofs.Common.{refl, subst, ap₂, arith, take_at, drop_at, ap, ◌∙◌, sym, length-append, append_assoc, take-take, drop-drop}
use Rattle.std.proofs.lemmas.List.{drop-take}
use Rattle.jf_hash.specs.Ranges.{Agree, has_change, is_many, kept_hash, kept_hashes, kept_within}
use Rattle.jf_hash.specs.declared.slot.Slot.{Slot}
use Rattle.jf_hash.specs.Slots.{Occupants, Empty, Lone, Many, range_hash, occupants, occupants_hash}
use Rattle.jf_hash.specs.Hashes.{E, N}
use Rattle.jf_hash.specs.declared.slot.Slot.TheVariants as slot
use Rattle.jf_hash.proofs.RangeLaws.{length-kept_within}
use Rattle.jf_hash.proofs.Halves.{range_hash-halves, left_half, right_half}
use Rattle.jf_hash.proofs.Present.{present-many, bits-many}

-- ---- places that are as they were
pub agree_same : (olds : List Slot) (changed : List Bool) (slots : List Slot) → Agree olds changed slots → has_change changed ≡ false → olds ≡ slots
agree_same [] [] [] h k = refl
agree_same (o ∷ olds) (true ∷ changed) (s ∷ slots) h k = absurd (cc)
agree_same (o ∷ olds) (false ∷ changed) (s ∷ slots) h k = ap₂ (λ x t. x ∷ t) (h.0 refl) (agree_same olds changed slots h.1 k)
agree_same [] [] (s ∷ slots) h k = absurd h
agree_same [] (c ∷ changed) slots h k = absurd h
agree_same (o ∷ olds) [] slots h k = absurd h
agree_same (o ∷ olds) (c ∷ changed) [] h k = absurd h

pub agree_take : (n : ℕ) (olds : List Slot) (changed : List Bool) (slots : List Slot) → Agree olds changed slots → Agree (take n olds) (take n changed) (take n slots)
agree_take zero olds changed slots h = tt
agree_take (suc n) [] [] [] h = tt
agree_take (suc n) (o ∷ olds) (c ∷ changed) (s ∷ slots) h = (h.0, agree_take n olds changed slots h.1)
agree_take (suc n) [] [] (s ∷ slots) h = absurd h
agree_take (suc n) [] (c ∷ changed) slots h = absurd h
agree_take (suc n) (o ∷ olds) [] slots h = absurd h
agree_take (suc n) (o ∷ olds) (c ∷ changed) [] h = absurd h

pub agree_drop : (n : ℕ) (olds : List Slot) (changed : List Bool) (slots : List Slot) → Agree olds changed slots → Agree (drop n olds) (drop n changed) (drop n slots)
agree_drop zero olds changed slots h = h
agree_drop (suc n) [] [] [] h = tt
agree_drop (suc n) (o ∷ olds) (c ∷ changed) (s ∷ slots) h = agree_drop n olds changed slots h.1
agree_drop (suc n) [] [] (s ∷ slots) h = absurd h
agree_drop (suc n) [] (c ∷ changed) slots h = absurd h
agree_drop (suc n) (o ∷ olds) [] slots h = absurd h
agree_drop (suc n) (o ∷ olds) (c ∷ changed) [] h = absurd h

pub agree_left : (half width start : ℕ) (olds : List Slot) (changed : List Bool) (slots : List Slot) → half + half ≡ width → Agree olds (take width (drop start changed)) (take width (drop start slots))
    → Agree (take half olds) (take half (drop start changed)) (take half (drop start slots))
agree_left half width start olds changed slots both h =
    subst (λ bits. Agree (take half olds) bits (take half (drop start slots))) (sym (left_half half width start changed both))
    (subst (Agree (take half olds) (take half (take width (drop start changed)))) (sym (left_half half width start slots both)) (agree_take half olds (take width (drop start changed)) (take width (drop start slots)) h))

pub agree_right : (half width start : ℕ) (olds : List Slot) (changed : List Bool) (slots : List Slot) → half + half ≡ width → Agree olds (take width (drop start changed)) (take width (drop start slots))
    → Agree (drop half olds) (take (width - half) (drop (start + half) changed)) (take (width - half) (drop (start + half) slots))
agree_right half width start olds changed slots both h =
    subst (λ bits. Agree (drop half olds) bits (take (width - half) (drop (start + half) slots))) (sym (right_half half width start changed both))
    (subst (Agree (drop half olds) (drop half (take width (drop start changed)))) (sym (right_half half width start slots both)) (agree_drop half olds (take width (drop start changed)) (take width (drop start slots)) h))

-- if each place changed, nothing is asked of the places before
pub agree_all : (old : Slot) (n : ℕ) (slots : List Slot) → length slots ≡ n → Agree (replicate n old) (replicate n true) slots
agree_all old zero [] long = tt
agree_all old zero (s ∷ slots) long = absurd (omega arith)
agree_all old (suc n) [] long = absurd (omega arith)
agree_all old (suc n) (s ∷ slots) long = (λ e. absurd (cc), agree_all old n slots (omega arith))

-- ---- the hashes within a range: those within its halves, and its own
left_of : (level : ℕ) (slots : List Slot) (n : ℕ) → n + 1 ≡ 2 ^ level → take n (kept_within (suc level) slots) ≡ kept_within level (take (2 ^ level) slots)
unfolding kept_within
left_of level slots n is = take_at (kept_within level (take (2 ^ level) slots)) _ n (omega (arith, length-kept_within level (take (2 ^ level) slots)))

rest_of : (level : ℕ) (slots : List Slot) (n : ℕ) → n + 1 ≡ 2 ^ level → drop n (kept_within (suc level) slots) ≡ kept_within level (drop (2 ^ level) slots) ++ kept_hash (suc level) slots ∷ []
unfolding kept_within
rest_of level slots n is = drop_at (kept_within level (take (2 ^ level) slots)) _ n (omega (arith, length-kept_within level (take (2 ^ level) slots)))

right_of : (level : ℕ) (slots : List Slot) (n : ℕ) → n + 1 ≡ 2 ^ level → take n (drop n (kept_within (suc level) slots)) ≡ kept_within level (drop (2 ^ level) slots)
right_of level slots n is =
    ap (take n) (rest_of level slots n is) ∙ take_at (kept_within level (drop (2 ^ level) slots)) _ n (omega (arith, length-kept_within level (drop (2 ^ level) slots)))

-- the hashes within a range of two places or more are those within its halves, and its own
pub within_halves : (level half : ℕ) (slots : List Slot) (hashes : List (Option (List ℕ))) → 0 < level → half ≡ 2 ^ (level - 1) → 1 ≤ half → hashes ≡ kept_within level slots
    → (take (half - 1) hashes ≡ kept_within (level - 1) (take half slots)) × (take (half - 1) (drop (half - 1) hashes) ≡ kept_within (level - 1) (drop half slots))
within_halves zero half slots hashes some is one at = absurd (omega arith)
within_halves (suc level) half slots hashes some is one at =
    let e : suc level - 1 ≡ level = omega arith in
    let h : half ≡ 2 ^ level = is ∙ ap (λ k. 2 ^ k) e in
    let n : (half - 1) + 1 ≡ 2 ^ level = omega arith in (
      ap (take (half - 1)) at ∙ left_of level slots (half - 1) n ∙ ap₂ (λ k n. kept_within k (take n slots)) (sym e) (sym h),
      ap (λ t. take (half - 1) (drop (half - 1) t)) at ∙ right_of level slots (half - 1) n ∙ ap₂ (λ k n. kept_within k (drop n slots)) (sym e) (sym h),
    )

-- what is kept of the places before, at those of each half
pub before_halves : (level half width first : ℕ) (olds : List Slot) (hashes : List (Option (List ℕ))) → 0 < level → half ≡ 2 ^ (level - 1) → 1 ≤ half → half + half ≡ width → take (width - 1) (drop first hashes) ≡ kept_within level olds
    → (take (half - 1) (drop first hashes) ≡ kept_within (level - 1) (take half olds)) × (take (width - half - 1) (drop (first + half - 1) hashes) ≡ kept_within (level - 1) (drop half olds))
before_halves level half width first olds hashes some is one both at =
    let within = within_halves level half olds (take (width - 1) (drop first hashes)) some is one at in
    let all : width - 1 ≡ (half - 1) + (width - half) = omega (arith, both, one) in (
      sym (take-take (half - 1) (width - 1) (drop first hashes) (omega (arith, both, one))) ∙ within.0,
      ap (λ k. take (width - half - 1) (drop k hashes)) (let e : first + half - 1 ≡ first + (half - 1) = omega (arith, one) in e)
          ∙ ap (take (width - half - 1)) (sym (drop-drop (half - 1) first hashes))
          ∙ sym (take-take (width - half - 1) (width - half) (drop (half - 1) (drop first hashes)) (omega arith))
          ∙ ap (λ k. take k (take (width - half) (drop (half - 1) (drop first hashes)))) (let e : width - half - 1 ≡ half - 1 = omega (arith, both) in e)
          ∙ ap (take (half - 1)) (sym (drop-take (half - 1) (width - half) (drop first hashes)) ∙ ap (λ k. drop (half - 1) (take k (drop first hashes))) (sym all))
          ∙ within.1,
    )

-- a range of more than one leaf is hashed again from its halves
pub hashed_over : (level half : ℕ) (slots : List Slot) (left right hash : List ℕ) → 0 < level → half ≡ 2 ^ (level - 1) → is_many (occupants slots) ≡ true → left ≡ range_hash (level - 1) (take half slots)
    → right ≡ range_hash (level - 1) (drop half slots) → hash ≡ N left right → hash ≡ range_hash level slots
hashed_over level half slots left right hash some is many a b h =
    h ∙ ap₂ N a b ∙ sym (many_hash (occupants slots) (N (range_hash (level - 1) (take half slots)) (range_hash (level - 1) (drop half slots))) many) ∙ range_hash-halves level half slots some is
  where
    many_hash : (o : Occupants) (more : List ℕ) → is_many o ≡ true → occupants_hash o more ≡ more
    many_hash Empty more many = absurd cc
    many_hash (Lone hash) more many = absurd cc
    many_hash Many more many = refl

-- what is kept of its halves, and then its own hash
pub present-halves : (level half : ℕ) (slots : List Slot) → 0 < level → half ≡ 2 ^ (level - 1) → is_many (occupants slots) ≡ true
    → present (kept_within level slots) ≡ (present (kept_within (level - 1) (take half slots)) ++ present (kept_within (level - 1) (drop half slots))) ++ range_hash level slots ∷ []
present-halves zero half slots some is many = absurd (omega arith)
present-halves (suc level) half slots some is many =
    let e : suc level - 1 ≡ level = omega arith in
    present-many level slots many ∙ sym (ap₂ (λ k n. (present (kept_within k (take n slots)) ++ present (kept_within k (drop n slots))) ++ range_hash (suc level) slots ∷ []) e (is ∙ ap (λ k. 2 ^ k) e))

pub bits-halves : (level half : ℕ) (slots : List Slot) → 0 < level → half ≡ 2 ^ (level - 1) → is_many (occupants slots) ≡ true
    → map is_some (kept_within level slots) ≡ (map is_some (kept_within (level - 1) (take half slots)) ++ map is_some (kept_within (level - 1) (drop half slots))) ++ true ∷ []
bits-halves zero half slots some is many = absurd (omega arith)
bits-halves (suc level) half slots some is many =
    let e : suc level - 1 ≡ level = omega arith in
    bits-many level slots many ∙ sym (ap₂ (λ k n. (map is_some (kept_within k (take n slots)) ++ map is_some (kept_within k (drop n slots))) ++ true ∷ []) e (is ∙ ap (λ k. 2 ^ k) e))

-- three lists appended one after another
pub appended : {X : Type 0} (before lefts rights all : List X) (last : X) → all ≡ (lefts ++ rights) ++ last ∷ [] → ((before ++ lefts) ++ rights) ++ last ∷ [] ≡ before ++ all
appended before lefts rights all last is = ap (λ t. t ++ last ∷ []) (append_assoc before lefts rights) ∙ append_assoc before (lefts ++ rights) (last ∷ []) ∙ ap (λ t. before ++ t) (sym is)

pub length-appended : {X : Type 0} (lefts rights all : List X) (last : X) → all ≡ (lefts ++ rights) ++ last ∷ [] → length all ≡ length lefts + length rights + 1
length-appended lefts rights all last is = ap length is ∙ length-append (lefts ++ rights) (last ∷ []) ∙ ap (λ n. n + 1) (length-append lefts rights)

-- what was kept of the first eight places, and of the last
pub before_left : (olds : List Slot) (hashes : List (Option (List ℕ))) → hashes ≡ kept_hashes olds → take 7 hashes ≡ kept_within 3 (take 8 olds)
before_left olds hashes was =
    ap (take 7) (was ∙ append_assoc (kept_within 3 (take 8 olds)) (kept_within 3 (drop 8 olds)) (None ∷ None ∷ []))
    ∙ take_at (kept_within 3 (take 8 olds)) _ 7 (omega (arith, length-kept_within 3 (take 8 olds)))

pub before_right : (olds : List Slot) (hashes : List (Option (List ℕ))) → hashes ≡ kept_hashes olds → take 7 (drop 7 hashes) ≡ kept_within 3 (drop 8 olds)
before_right olds hashes was =
    ap (λ hs. take 7 (drop 7 hs)) (was ∙ append_assoc (kept_within 3 (take 8 olds)) (kept_within 3 (drop 8 olds)) (None ∷ None ∷ []))
    ∙ ap (take 7) (drop_at (kept_within 3 (take 8 olds)) _ 7 (omega (arith, length-kept_within 3 (take 8 olds))))
    ∙ take_at (kept_within 3 (drop 8 olds)) _ 7 (omega (arith, length-kept_within 3 (drop 8 olds)))

-- the hash of places without a child
pub range_hash-none : range_hash 4 (replicate 16 slot.Absent) ≡ E
unfolding range_hash
range_hash-none = refl

-- nothing is kept of places without a child
pub kept_hashes-none : replicate 16 None ≡ kept_hashes (replicate 16 slot.Absent)
unfolding kept_within
kept_hashes-none = refl
