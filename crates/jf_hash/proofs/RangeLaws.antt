-- Where what is kept of each range stands among the fourteen, and how many pairs are hashed for them.
use Rattle.std.specs.Prelude.{ℕ, zero, suc, ◌-◌, ◌^◌, ◌≤◌, ◌≡◌, ◌+◌, Option, None, List, [], ◌∷◌, ◌++◌, length, take, drop, ◌<◌, ◌%◌, ◌⊎◌, Bool, true, false, cond, ◌&&◌, ◌*◌}
use Rattle.std.proofs.Common.{arith, pow-suc, refl, length-append, get_or, sym, ap, ◌∙◌, append_assoc, inl, inr, ap₂, length-take-le, length-drop, take_all, take-take, drop-drop, eq-or-lt_of_le}
use Rattle.std.proofs.Math.Nat.{mul-add}
use Rattle.std.proofs.lemmas.Bool.{cases_lt}
use Rattle.std.proofs.lemmas.List.{drop-take, get_or_append_left, get_or-append-add}
use Rattle.std.proofs.lemmas.List.Sums.{sum_by-cons, sum_by-take-drop}
use Rattle.std.specs.List.{count_by}
use Rattle.jf_hash.specs.Slots.{occupants}
use Rattle.jf_hash.specs.Ranges.{kept_below, kept_hash, kept_within, range_index, IsRange, kept_hashes, has_change, is_many, pairs_within}
use Rattle.jf_hash.specs.declared.slot.Slot.{Slot}

pub some_power : (level : ℕ) → 1 ≤ 2 ^ level
some_power zero = omega arith
some_power (suc level) = omega (arith, pow-suc 2 level, some_power level)

pub length-kept_within : (level : ℕ) (slots : List Slot) → length (kept_within level slots) + 1 ≡ 2 ^ level
unfolding kept_within
length-kept_within zero slots = refl
length-kept_within (suc level) slots =
    omega (
      arith,
      pow-suc 2 level,
      length-kept_within level (take (2 ^ level) slots),
      length-kept_within level (drop (2 ^ level) slots),
      length-append (kept_within level (take (2 ^ level) slots)) (kept_within level (drop (2 ^ level) slots) ++ kept_hash (suc level) slots ∷ []),
      length-append (kept_within level (drop (2 ^ level) slots)) (kept_hash (suc level) slots ∷ []),
    )

pub last_at : {X : Type 0} (xs : List X) (x : X) (n : ℕ) (d : X) → n ≡ length xs → get_or (xs ++ x ∷ []) n d ≡ x
last_at [] x zero d is = refl
last_at [] x (suc n) d is = absurd (omega arith)
last_at (y ∷ xs) x zero d is = absurd (omega arith)
last_at (y ∷ xs) x (suc n) d is = last_at xs x n d (omega arith)

-- what is kept of the whole range stands last
pub within_whole : (level : ℕ) (slots : List Slot) (n : ℕ) (d : Option (List ℕ)) → 0 < level → n + 2 ≡ 2 ^ level → get_or (kept_within level slots) n d ≡ kept_hash level slots
unfolding kept_within
within_whole zero slots n d some is = absurd (omega arith)
within_whole (suc level) slots n d some is =
    let left = kept_within level (take (2 ^ level) slots) in
    let right = kept_within level (drop (2 ^ level) slots) in
    ap (λ t. get_or t n d) (sym (append_assoc left right (kept_hash (suc level) slots ∷ [])))
    ∙ last_at (left ++ right) (kept_hash (suc level) slots) n d (omega (arith, pow-suc 2 level, length-append left right, length-kept_within level (take (2 ^ level) slots), length-kept_within level (drop (2 ^ level) slots)))

-- ---- where a range stands: in the first half, or after it
-- a range of 2 ^ l places that stands in the first half of 2 ^ suc t places
pub record InLeft (t l start : ℕ) : Type 0 where
  pub fits : start + 2 ^ l ≤ 2 ^ t
  pub before : range_index start (2 ^ l) + 1 < 2 ^ t

-- a range of 2 ^ l places that stands in the second half of 2 ^ suc t places
pub record InRight (t l start : ℕ) : Type 0 where
  pub behind : 2 ^ t ≤ start
  pub aligned : (start - 2 ^ t) % 2 ^ l ≡ 0
  pub fits : (start - 2 ^ t) + 2 ^ l ≤ 2 ^ t
  pub index : range_index start (2 ^ l) + 1 ≡ 2 ^ t + range_index (start - 2 ^ t) (2 ^ l)
  pub before : range_index (start - 2 ^ t) (2 ^ l) + 1 < 2 ^ t

in_half : (t l start : ℕ) → 1 ≤ l → l ≤ t → t ≤ 3 → start % 2 ^ l ≡ 0 → start + 2 ^ l ≤ 2 ^ suc t → InLeft t l start ⊎ InRight t l start
in_half t l start some within small aligned fits = elim (cases_lt start (2 ^ t)) [ inl h ↦ inl (left t l some within small aligned fits h) | inr h ↦ inr (right t l some within small aligned fits h) ]
  where
    left : (t l : ℕ) → 1 ≤ l → l ≤ t → t ≤ 3 → start % 2 ^ l ≡ 0 → start + 2 ^ l ≤ 2 ^ suc t → start < 2 ^ t → InLeft t l start
    left t zero some within small aligned fits h = absurd (omega arith)
    left zero (suc l) some within small aligned fits h = absurd (omega arith)
    left (suc zero) (suc zero) some within small aligned fits h = record { fits = omega arith; before = omega arith }
    left (suc (suc zero)) (suc zero) some within small aligned fits h = record { fits = omega arith; before = omega arith }
    left (suc (suc zero)) (suc (suc zero)) some within small aligned fits h = record { fits = omega arith; before = omega arith }
    left (suc (suc (suc zero))) (suc zero) some within small aligned fits h = record { fits = omega arith; before = omega arith }
    left (suc (suc (suc zero))) (suc (suc zero)) some within small aligned fits h = record { fits = omega arith; before = omega arith }
    left (suc (suc (suc zero))) (suc (suc (suc zero))) some within small aligned fits h = record { fits = omega arith; before = omega arith }
    left (suc zero) (suc (suc l)) some within small aligned fits h = absurd (omega arith)
    left (suc (suc zero)) (suc (suc (suc l))) some within small aligned fits h = absurd (omega arith)
    left (suc (suc (suc zero))) (suc (suc (suc (suc l)))) some within small aligned fits h = absurd (omega arith)
    left (suc (suc (suc (suc t)))) l some within small aligned fits h = absurd (omega arith)

    right : (t l : ℕ) → 1 ≤ l → l ≤ t → t ≤ 3 → start % 2 ^ l ≡ 0 → start + 2 ^ l ≤ 2 ^ suc t → 2 ^ t ≤ start → InRight t l start
    right t zero some within small aligned fits h = absurd (omega arith)
    right zero (suc l) some within small aligned fits h = absurd (omega arith)
    right (suc zero) (suc zero) some within small aligned fits h = record { behind = h; aligned = omega arith; fits = omega arith; index = omega arith; before = omega arith }
    right (suc (suc zero)) (suc zero) some within small aligned fits h = record { behind = h; aligned = omega arith; fits = omega arith; index = omega arith; before = omega arith }
    right (suc (suc zero)) (suc (suc zero)) some within small aligned fits h = record { behind = h; aligned = omega arith; fits = omega arith; index = omega arith; before = omega arith }
    right (suc (suc (suc zero))) (suc zero) some within small aligned fits h = record { behind = h; aligned = omega arith; fits = omega arith; index = omega arith; before = omega arith }
    right (suc (suc (suc zero))) (suc (suc zero)) some within small aligned fits h = record { behind = h; aligned = omega arith; fits = omega arith; index = omega arith; before = omega arith }
    right (suc (suc (suc zero))) (suc (suc (suc zero))) some within small aligned fits h = record { behind = h; aligned = omega arith; fits = omega arith; index = omega arith; before = omega arith }
    right (suc zero) (suc (suc l)) some within small aligned fits h = absurd (omega arith)
    right (suc (suc zero)) (suc (suc (suc l))) some within small aligned fits h = absurd (omega arith)
    right (suc (suc (suc zero))) (suc (suc (suc (suc l)))) some within small aligned fits h = absurd (omega arith)
    right (suc (suc (suc (suc t)))) l some within small aligned fits h = absurd (omega arith)

within_at : (top l start : ℕ) (slots : List Slot) (d : Option (List ℕ)) → 1 ≤ l → l ≤ top → top ≤ 4 → start % 2 ^ l ≡ 0 → start + 2 ^ l ≤ 2 ^ top → length slots ≡ 2 ^ top
    → get_or (kept_within top slots) (range_index start (2 ^ l)) d ≡ kept_hash l (take (2 ^ l) (drop start slots))
unfolding kept_within
within_at zero l start slots d some within small aligned fits long = absurd (omega arith)
within_at (suc t) l start slots d some within small aligned fits long =
    let lefts = kept_within t (take (2 ^ t) slots) in
    let rights = kept_within t (drop (2 ^ t) slots) in
    let left_long = length-kept_within t (take (2 ^ t) slots) in
    let right_long = length-kept_within t (drop (2 ^ t) slots) in
    elim (eq-or-lt_of_le within) [
      | inl whole ↦
          let none : start ≡ 0 = omega (arith, ap (λ k. 2 ^ k) whole, fits) in
          let at : range_index start (2 ^ l) + 2 ≡ 2 ^ suc t = ap (λ s. range_index s (2 ^ l) + 2) none ∙ omega (arith, ap (λ k. 2 ^ k) whole, pow-suc 2 t, some_power t) in
          within_whole (suc t) slots (range_index start (2 ^ l)) d (omega arith) at
          ∙ ap₂ (λ k xs. kept_hash k xs) (sym whole) (sym (ap₂ (λ n s. take n (drop s slots)) (ap (λ k. 2 ^ k) whole) none ∙ take_all (2 ^ suc t) slots (omega (arith, long))))
      | inr less ↦ elim (in_half t l start some (omega arith) (omega arith) aligned fits) [
        | inl left ↦
            get_or_append_left lefts (rights ++ kept_hash (suc t) slots ∷ []) d (range_index start (2 ^ l)) (omega (arith, left.before, left_long))
            ∙ within_at t l start (take (2 ^ t) slots) d some (omega arith) (omega arith) aligned left.fits (length-take-le (2 ^ t) slots (omega (arith, long, pow-suc 2 t)))
            ∙ ap (kept_hash l) (part_taken (2 ^ l) start (2 ^ t) slots left.fits)
        | inr right ↦
            ap (λ n. get_or (lefts ++ (rights ++ kept_hash (suc t) slots ∷ [])) n d) (let e : range_index start (2 ^ l) ≡ length lefts + range_index (start - 2 ^ t) (2 ^ l) = omega (arith, right.index, left_long) in e)
            ∙ get_or-append-add lefts (rights ++ kept_hash (suc t) slots ∷ []) (range_index (start - 2 ^ t) (2 ^ l)) d
            ∙ get_or_append_left rights (kept_hash (suc t) slots ∷ []) d (range_index (start - 2 ^ t) (2 ^ l)) (omega (arith, right.before, right_long))
            ∙ within_at t l (start - 2 ^ t) (drop (2 ^ t) slots) d some (omega arith) (omega arith) right.aligned right.fits (length-drop (2 ^ t) slots ∙ omega (arith, long, pow-suc 2 t))
            ∙ ap (λ xs. kept_hash l (take (2 ^ l) xs)) (drop-drop (start - 2 ^ t) (2 ^ t) slots ∙ ap (λ n. drop n slots) (let e : 2 ^ t + (start - 2 ^ t) ≡ start = omega (arith, right.behind) in e))
      ]
    ]
  where
    part_taken : (w start n : ℕ) (xs : List Slot) → start + w ≤ n → take w (drop start (take n xs)) ≡ take w (drop start xs)
    part_taken w start n xs le =
        ap (λ k. take w (drop start (take k xs))) (let e : n ≡ start + (n - start) = omega arith in e) ∙ ap (take w) (drop-take start (n - start) xs) ∙ take-take w (n - start) (drop start xs) (omega arith)

-- ---- the ranges
-- a width is a power of two
pub range_level : (start width : ℕ) → IsRange start width → (level : ℕ) × (level ≤ 4) × (width ≡ 2 ^ level)
range_level start width range = elim range.wide [
  | inl is ↦ (0, omega arith, is)
  | inr (inl is) ↦ (1, omega arith, is)
  | inr (inr (inl is)) ↦ (2, omega arith, is)
  | inr (inr (inr (inl is))) ↦ (3, omega arith, is)
  | inr (inr (inr (inr is))) ↦ (4, omega arith, is)
]

-- 2 ^ level places make a range
pub IsRange-of_level : (level start : ℕ) → level ≤ 4 → start % 2 ^ level ≡ 0 → start < 16 → IsRange start (2 ^ level)
IsRange-of_level zero start small aligned lt = record { wide = inl refl; aligned = aligned; within = lt }
IsRange-of_level (suc zero) start small aligned lt = record { wide = inr (inl refl); aligned = aligned; within = lt }
IsRange-of_level (suc (suc zero)) start small aligned lt = record { wide = inr (inr (inl refl)); aligned = aligned; within = lt }
IsRange-of_level (suc (suc (suc zero))) start small aligned lt = record { wide = inr (inr (inr (inl refl))); aligned = aligned; within = lt }
IsRange-of_level (suc (suc (suc (suc zero)))) start small aligned lt = record { wide = inr (inr (inr (inr refl))); aligned = aligned; within = lt }
IsRange-of_level (suc (suc (suc (suc (suc n))))) start small aligned lt = absurd (omega arith)

-- ---- what the ranges are
pub fits_all : (level start : ℕ) → level ≤ 4 → start % 2 ^ level ≡ 0 → start < 16 → start + 2 ^ level ≤ 16
fits_all zero start small aligned lt = omega arith
fits_all (suc zero) start small aligned lt = omega arith
fits_all (suc (suc zero)) start small aligned lt = omega arith
fits_all (suc (suc (suc zero))) start small aligned lt = omega arith
fits_all (suc (suc (suc (suc zero)))) start small aligned lt = omega arith
fits_all (suc (suc (suc (suc (suc n))))) start small aligned lt = absurd (omega arith)

pub range_index-small : (level start : ℕ) → 1 ≤ level → level ≤ 3 → start % 2 ^ level ≡ 0 → start < 16 → range_index start (2 ^ level) < 14
range_index-small zero start some small aligned lt = absurd (omega arith)
range_index-small (suc zero) start some small aligned lt = omega arith
range_index-small (suc (suc zero)) start some small aligned lt = omega arith
range_index-small (suc (suc (suc zero))) start some small aligned lt = omega arith
range_index-small (suc (suc (suc (suc n)))) start some small aligned lt = absurd (omega arith)

pub length-kept_below : (slots : List Slot) → length (kept_below slots) ≡ 14
length-kept_below slots = omega (arith, length-append (kept_within 3 (take 8 slots)) (kept_within 3 (drop 8 slots)), length-kept_within 3 (take 8 slots), length-kept_within 3 (drop 8 slots))

-- with that of all places they are what is kept within these
below_all : (slots : List Slot) → kept_within 4 slots ≡ kept_below slots ++ kept_hash 4 slots ∷ []
unfolding kept_within
below_all slots = sym (append_assoc (kept_within 3 (take 8 slots)) (kept_within 3 (drop 8 slots)) (kept_hash 4 slots ∷ []))

-- what is kept of each range stands at its place
pub kept_hashes-at : (level start : ℕ) (slots : List Slot) (d : Option (List ℕ)) → 1 ≤ level → level ≤ 3 → start % 2 ^ level ≡ 0 → start < 16 → length slots ≡ 16
    → get_or (kept_hashes slots) (range_index start (2 ^ level)) d ≡ kept_hash level (take (2 ^ level) (drop start slots))
kept_hashes-at level start slots d some small aligned lt long =
    let n = range_index start (2 ^ level) in
    let before : n < length (kept_below slots) = omega (arith, range_index-small level start some small aligned lt, length-kept_below slots) in
    get_or_append_left (kept_below slots) (None ∷ None ∷ []) d n before
    ∙ sym (get_or_append_left (kept_below slots) (kept_hash 4 slots ∷ []) d n before)
    ∙ ap (λ hs. get_or hs n d) (sym (below_all slots))
    ∙ within_at 4 level start slots d some (omega arith) (omega arith) aligned (fits_all level start (omega arith) aligned lt) long

-- ---- how many pairs are hashed
-- no pair is hashed if no place changed
pub has_change-take : (n : ℕ) (changes : List Bool) → has_change changes ≡ false → has_change (take n changes) ≡ false
has_change-take zero changes none = refl
has_change-take (suc n) [] none = refl
has_change-take (suc n) (true ∷ changes) none = absurd (cc)
has_change-take (suc n) (false ∷ changes) none = has_change-take n changes none

pub has_change-drop : (n : ℕ) (changes : List Bool) → has_change changes ≡ false → has_change (drop n changes) ≡ false
has_change-drop zero changes none = none
has_change-drop (suc n) [] none = refl
has_change-drop (suc n) (true ∷ changes) none = absurd (cc)
has_change-drop (suc n) (false ∷ changes) none = has_change-drop n changes none

pub pairs_within-none : (level : ℕ) (slots : List Slot) (changes : List Bool) → has_change changes ≡ false → pairs_within level slots changes ≡ 0
unfolding pairs_within
pairs_within-none zero slots changes none = refl
pairs_within-none (suc level) slots changes none =
    omega (
      arith,
      pairs_within-none level (take (2 ^ level) slots) (take (2 ^ level) changes) (has_change-take (2 ^ level) changes none),
      pairs_within-none level (drop (2 ^ level) slots) (drop (2 ^ level) changes) (has_change-drop (2 ^ level) changes none),
      ap {B = ℕ} (λ b. cond (b && is_many (occupants slots)) 1 0) none,
    )

at_most_changes : (more : Bool) (changes : List Bool) → cond (has_change changes && more) 1 0 ≤ count_by (λ change. change) changes
at_most_changes more [] = omega arith
at_most_changes true (true ∷ changes) = omega (arith, sum_by-cons (λ change. cond {A = ℕ} change 1 0) true changes)
at_most_changes false (true ∷ changes) = omega arith
at_most_changes more (false ∷ changes) = at_most_changes more changes

together : (level a b c p q here : ℕ) → p ≤ level * a → q ≤ level * b → a + b ≡ c → here ≤ c → p + q + here ≤ suc level * c
together level a b c p q here first second is small = omega (arith, mul-distrib level a b c is, suc-times level c)
  where
    mul-distrib : (n a b c : ℕ) → a + b ≡ c → n * c ≡ n * a + n * b
    mul-distrib n a b c is = ap (λ k. n * k) (sym is) ∙ mul-add n a b

    suc-times : (n c : ℕ) → suc n * c ≡ n * c + c
    suc-times n c = grind arith

-- a changed place lies in one range of each width
pub pairs_within-bounded : (level : ℕ) (slots : List Slot) (changes : List Bool) → pairs_within level slots changes ≤ level * count_by (λ change. change) changes
unfolding pairs_within
pairs_within-bounded zero slots changes = omega arith
pairs_within-bounded (suc level) slots changes =
    together level (count_by (λ change. change) (take (2 ^ level) changes)) (count_by (λ change. change) (drop (2 ^ level) changes)) (count_by (λ change. change) changes) _ _ _
    (pairs_within-bounded level (take (2 ^ level) slots) (take (2 ^ level) changes)) (pairs_within-bounded level (drop (2 ^ level) slots) (drop (2 ^ level) changes))
    (sum_by-take-drop (λ change. cond change 1 0) changes (2 ^ level)) (at_most_changes (is_many (occupants slots)) changes)

-- one pair at most for each range
pub pairs_within-once : (level : ℕ) (slots : List Slot) (changes : List Bool) → pairs_within level slots changes + 1 ≤ 2 ^ level
unfolding pairs_within
pairs_within-once zero slots changes = omega arith
pairs_within-once (suc level) slots changes =
    omega (
      arith,
      pow-suc 2 level,
      pairs_within-once level (take (2 ^ level) slots) (take (2 ^ level) changes),
      pairs_within-once level (drop (2 ^ level) slots) (drop (2 ^ level) changes),
      at_most_one (has_change changes && is_many (occupants slots)),
    )
  where
    at_most_one : (here : Bool) → cond {A = ℕ} here 1 0 ≤ 1
    at_most_one true = omega arith
    at_most_one false = omega arith

pub pairs_within-one : (level : ℕ) (slots : List Slot) (changes : List Bool) → 2 ^ level ≡ 1 → level ≤ 4 → pairs_within level slots changes ≡ 0
unfolding pairs_within
pairs_within-one zero slots changes is small = refl
pairs_within-one (suc zero) slots changes is small = absurd (omega arith)
pairs_within-one (suc (suc zero)) slots changes is small = absurd (omega arith)
pairs_within-one (suc (suc (suc zero))) slots changes is small = absurd (omega arith)
pairs_within-one (suc (suc (suc (suc zero)))) slots changes is small = absurd (omega arith)
pairs_within-one (suc (suc (suc (suc (suc n))))) slots changes is small = absurd (omega arith)

-- the pairs of a range with a changed place and more than one leaf are those of its halves, and its own
pub pairs_within-halves : (level half : ℕ) (slots : List Slot) (changes : List Bool) → 0 < level → half ≡ 2 ^ (level - 1) → has_change changes ≡ true → is_many (occupants slots) ≡ true
    → pairs_within (level - 1) (take half slots) (take half changes) + pairs_within (level - 1) (drop half slots) (drop half changes) + 1 ≡ pairs_within level slots changes
unfolding pairs_within
pairs_within-halves zero half slots changes some is change many = absurd (omega arith)
pairs_within-halves (suc level) half slots changes some is change many =
    let e : suc level - 1 ≡ level = omega arith in
    let h : half ≡ 2 ^ level = is ∙ ap (λ k. 2 ^ k) e in
    ap₂ (λ k n. pairs_within k (take n slots) (take n changes) + pairs_within k (drop n slots) (drop n changes) + 1) e h
    ∙ ap₂ {C = ℕ} (λ b m. pairs_within level (take (2 ^ level) slots) (take (2 ^ level) changes) + pairs_within level (drop (2 ^ level) slots) (drop (2 ^ level) changes) + cond (b && m) 1 0) (sym change) (sym many)
