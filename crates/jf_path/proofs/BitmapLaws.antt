-- The bits of a number in order: one of them, the first few, how many are set; and a list that is spread over places.
use Rattle.std.specs.Prelude.{◌≡◌, ◌≢◌, ℕ, zero, suc, ◌+◌, ◌-◌, ◌*◌, ◌/◌, ◌%◌, ◌^◌, ◌<◌, ◌≤◌, ◌==◌, Bool, true, false, cond, List, [], ◌∷◌, length, map, take, drop, get_or, set, count_ones, is_some, Option, Some, None, slice_get, bit_or, bit_and}
use Rattle.std.specs.Int.{w16, bit_at}
use Rattle.std.specs.List.{count_by}
use Rattle.std.specs.Simd.Lanes.{mask_l}
use Rattle.std.proofs.Common.{arith, inl, inr, refl, ap, ap₂, ◌∙◌, sym, pow-suc, mul_comm, div-one, mod-eq_of_lt, pow_mono}
use Rattle.std.proofs.Math.Nat.{div-div-eq-div-mul}
use Rattle.std.proofs.lemmas.Bool.{cases_eq}
use Rattle.std.proofs.lemmas.List.{map-id, ext_get_or, length-set, get_or-set_same, get_or-set_other}
use Rattle.std.proofs.lemmas.List.Sums.{sum_by-cons, sum_by-take-le, count_by_more_yes}
use Rattle.std.proofs.lemmas.Option.{slice_get-get_or}
use Rattle.std.proofs.lemmas.Simd.{ones-mask_l}
use Rattle.std.proofs.lemmas.Nat.{and_mask}
use Rattle.std.proofs.lemmas.Nat.Bits.{bit_at_set_same, bit_at_set_other, bit_at_clear_same, bit_at_clear_other}
use Rattle.jf_path.specs.Bitmaps.{bits_of, spread_items, present, mask-bits_of}

-- ---- how many bits are set
pub count_by-clear : (bits : List Bool) → count_by (λ bit. bit) (false ∷ bits) ≡ count_by (λ bit. bit) bits
count_by-clear bits = omega (arith, sum_by-cons (λ bit. cond bit 1 0) false bits)

pub count_by-set : (bits : List Bool) → count_by (λ bit. bit) (true ∷ bits) ≡ suc (count_by (λ bit. bit) bits)
count_by-set bits = omega (arith, sum_by-cons (λ bit. cond bit 1 0) true bits)

-- ---- the bits of a number
pub length-bits_of : (k n : ℕ) → length (bits_of k n) ≡ k
unfolding bits_of
length-bits_of zero n = refl
length-bits_of (suc k) n = ap suc (length-bits_of k (n / 2))

halved : (n i : ℕ) → n / 2 / 2 ^ i ≡ n / 2 ^ suc i
halved n i = div-div-eq-div-mul n 2 (2 ^ i) ∙ ap (λ m. n / m) (mul_comm 2 (2 ^ i) ∙ sym (pow-suc 2 i))

pub get_or-bits_of : (k n i : ℕ) (d : Bool) → i < k → get_or (bits_of k n) i d ≡ (bit_at n i == 1)
unfolding bits_of
get_or-bits_of zero n i d small = absurd (omega arith)
get_or-bits_of (suc k) n zero d small = ap (λ m. m % 2 == 1) (sym (div-one n))
get_or-bits_of (suc k) n (suc i) d small = get_or-bits_of k (n / 2) i d (omega arith) ∙ ap (λ m. m % 2 == 1) (halved n i)

pub take-bits_of : (j k n : ℕ) → j ≤ k → take j (bits_of k n) ≡ bits_of j n
unfolding bits_of
take-bits_of zero k n few = refl
take-bits_of (suc j) zero n few = absurd (omega arith)
take-bits_of (suc j) (suc k) n few = ap (λ t. (n % 2 == 1) ∷ t) (take-bits_of j k (n / 2) (omega arith))

pub drop-bits_of : (j k n : ℕ) → j ≤ k → drop j (bits_of k n) ≡ bits_of (k - j) (n / 2 ^ j)
unfolding bits_of
drop-bits_of zero k n few = ap₂ bits_of (let e : k ≡ k - 0 = omega arith in e) (sym (div-one n))
drop-bits_of (suc j) zero n few = absurd (omega arith)
drop-bits_of (suc j) (suc k) n few = drop-bits_of j k (n / 2) (omega arith) ∙ ap₂ bits_of (let e : k - j ≡ suc k - suc j = omega arith in e) (halved n j)

-- how many bits are set
pub count_by-bits_of : (k n : ℕ) → count_by (λ bit. bit) (bits_of k n) ≡ count_ones (n % 2 ^ k)
count_by-bits_of k n = sym (ones-mask_l (λ bit. bit) (bits_of k n)) ∙ ap (λ bits. count_ones (mask_l bits)) (map-id (bits_of k n)) ∙ ap count_ones (mask-bits_of k n)

pub count_by-front : (k n place : ℕ) → place ≤ k → count_by (λ bit. bit) (take place (bits_of k n)) ≡ count_ones (n % 2 ^ place)
count_by-front k n place few = ap (count_by (λ bit. bit)) (take-bits_of place k n few) ∙ count_by-bits_of place n

pub count_by-range : (k n start width : ℕ) → start + width ≤ k → count_by (λ bit. bit) (take width (drop start (bits_of k n))) ≡ count_ones (n / 2 ^ start % 2 ^ width)
count_by-range k n start width within =
    ap (λ bits. count_by (λ bit. bit) (take width bits)) (drop-bits_of start k n (omega arith)) ∙ count_by-front (k - start) (n / 2 ^ start) width (omega arith)

-- as the program counts them: of the lowest bits of a number of 32 bits
pub masked : (n width : ℕ) → width ≤ 16 → count_ones (bit_and n (1 * 2 ^ width % 4294967296 - 1)) ≡ count_ones (n % 2 ^ width)
masked n width few =
    ap (λ m. count_ones (bit_and n (m - 1))) (mod-eq_of_lt (let small : 1 * 2 ^ width < 4294967296 = omega (arith, pow_mono few) in small) ∙ (let once : 1 * 2 ^ width ≡ 2 ^ width = omega arith in once))
    ∙ ap count_ones (and_mask n width)

-- ---- a number with one bit changed
bits_agree : (k n m place : ℕ) (on : Bool) → place < k → (bit_at m place == 1) ≡ on → ((i : ℕ) → i < k → i ≢ place → bit_at m i ≡ bit_at n i) → bits_of k m ≡ set (bits_of k n) place on
bits_agree k n m place on small here others =
    ext_get_or false (bits_of k m) (set (bits_of k n) place on) (length-bits_of k m ∙ sym (length-bits_of k n) ∙ sym (length-set (bits_of k n) place on)) (λ i within. at i (omega (arith, length-bits_of k m, within)))
  where
    at : (i : ℕ) → i < k → get_or (bits_of k m) i false ≡ get_or (set (bits_of k n) place on) i false
    at i within = elim (cases_eq i place) [
      | inl same ↦ get_or-bits_of k m i false within ∙ ap (λ j. bit_at m j == 1) same ∙ here ∙ sym (get_or-set_same (bits_of k n) place on false (omega (arith, length-bits_of k n, small))) ∙ ap (λ j. get_or (set (bits_of k n) place on) j false) (sym same)
      | inr other ↦ get_or-bits_of k m i false within ∙ ap (λ b. b == 1) (others i within other) ∙ sym (get_or-bits_of k n i false within) ∙ sym (get_or-set_other (bits_of k n) place i on false other)
    ]

pub bits_of-set : (n place : ℕ) → place < 16 → bits_of 16 (bit_or n (1 * 2 ^ place % 65536)) ≡ set (bits_of 16 n) place true
bits_of-set n place small =
    bits_agree 16 n (bit_or n (1 * 2 ^ place % 65536)) place true small (ap (λ b. b == 1) (bit_at_set_same w16 n place small)) (λ i within other. bit_at_set_other w16 n place small i other)

pub bits_of-clear : (n place : ℕ) → place < 16 → bits_of 16 (bit_and n (65535 - 1 * 2 ^ place % 65536)) ≡ set (bits_of 16 n) place false
bits_of-clear n place small =
    bits_agree 16 n (bit_and n (65535 - 1 * 2 ^ place % 65536)) place false small (ap (λ b. b == 1) (bit_at_clear_same w16 n place small)) (λ i within other. bit_at_clear_other w16 n place small i within other)

-- ---- a number from its bits
pub mask-view : (n : ℕ) (bits : List Bool) → n < 65536 → bits_of 16 n ≡ bits → mask_l bits ≡ n
mask-view n bits small are = ap mask_l (sym are) ∙ mask-bits_of 16 n ∙ mod-eq_of_lt small

-- ---- items spread over places
module _ {X : Type 0} where
  pub length-spread : (bits : List Bool) (xs : List X) → length (spread_items bits xs) ≡ length bits
  unfolding spread_items
  length-spread [] xs = refl
  length-spread (false ∷ bits) xs = ap suc (length-spread bits xs)
  length-spread (true ∷ bits) [] = ap suc (length-spread bits [])
  length-spread (true ∷ bits) (x ∷ xs) = ap suc (length-spread bits xs)

  -- a list is its places that are there, and its items
  pub spread-present : (xs : List (Option X)) → spread_items (map is_some xs) (present xs) ≡ xs
  unfolding spread_items present
  spread-present [] = refl
  spread-present (None ∷ xs) = ap (λ t. None ∷ t) (spread-present xs)
  spread-present (Some x ∷ xs) = ap (λ t. Some x ∷ t) (spread-present xs)

  pub count_by-is_some : (xs : List (Option X)) → count_by (λ bit. bit) (map is_some xs) ≡ length (present xs)
  unfolding present
  count_by-is_some [] = refl
  count_by-is_some (None ∷ xs) = count_by-clear (map is_some xs) ∙ count_by-is_some xs
  count_by-is_some (Some x ∷ xs) = count_by-set (map is_some xs) ∙ ap suc (count_by-is_some xs)

  -- as many items as bits that are set
  pub is_some-spread : (bits : List Bool) (xs : List X) → count_by (λ bit. bit) bits ≡ length xs → map is_some (spread_items bits xs) ≡ bits
  unfolding spread_items
  is_some-spread [] xs many = refl
  is_some-spread (false ∷ bits) xs many = ap (λ t. false ∷ t) (is_some-spread bits xs (sym (count_by-clear bits) ∙ many))
  is_some-spread (true ∷ bits) [] many = absurd (omega (arith, count_by-set bits))
  is_some-spread (true ∷ bits) (x ∷ xs) many = ap (λ t. true ∷ t) (is_some-spread bits xs (omega (arith, count_by-set bits)))

  pub present-spread : (bits : List Bool) (xs : List X) → count_by (λ bit. bit) bits ≡ length xs → present (spread_items bits xs) ≡ xs
  unfolding spread_items present
  present-spread [] [] many = refl
  present-spread [] (x ∷ xs) many = absurd (omega arith)
  present-spread (false ∷ bits) xs many = present-spread bits xs (sym (count_by-clear bits) ∙ many)
  present-spread (true ∷ bits) [] many = absurd (omega (arith, count_by-set bits))
  present-spread (true ∷ bits) (x ∷ xs) many = ap (λ t. x ∷ t) (present-spread bits xs (omega (arith, count_by-set bits)))

  -- what stands at a place is the item after those of the places before it
  pub get_or-spread : (bits : List Bool) (xs : List X) (i : ℕ) → get_or (spread_items bits xs) i None ≡ cond (get_or bits i false) (slice_get xs (count_by (λ bit. bit) (take i bits))) None
  unfolding spread_items
  get_or-spread [] xs i = refl
  get_or-spread (false ∷ bits) xs zero = refl
  get_or-spread (false ∷ bits) xs (suc i) = get_or-spread bits xs i ∙ ap (λ n. cond (get_or bits i false) (slice_get xs n) None) (sym (count_by-clear (take i bits)))
  get_or-spread (true ∷ bits) [] zero = refl
  get_or-spread (true ∷ bits) [] (suc i) = get_or-spread bits [] i
  get_or-spread (true ∷ bits) (x ∷ xs) zero = refl
  get_or-spread (true ∷ bits) (x ∷ xs) (suc i) =
      get_or-spread bits xs i ∙ ap (λ n. cond (get_or bits i false) (slice_get (x ∷ xs) n) None) (sym (count_by-set (take i bits)))

-- where a bit is set and there are as many items as bits that are set, the item is there
pub rank-lt : (bits : List Bool) (i : ℕ) → get_or bits i false ≡ true → count_by (λ bit. bit) (take i bits) < count_by (λ bit. bit) bits
rank-lt bits i on =
    omega (arith, count_by_more_yes (λ bit. bit) bits i false (within bits i on) on, sum_by-take-le (λ bit. cond bit 1 0) bits (i + 1))
  where
    within : (bits : List Bool) (i : ℕ) → get_or bits i false ≡ true → i < length bits
    within [] i on = absurd cc
    within (bit ∷ bits) zero on = omega arith
    within (bit ∷ bits) (suc i) on = omega (arith, within bits i on)

pub spread-here : {X : Type 0} (bits : List Bool) (xs : List X) (i : ℕ) (d : X) → count_by (λ bit. bit) bits ≡ length xs → get_or bits i false ≡ true
    → get_or (spread_items bits xs) i None ≡ Some (get_or xs (count_by (λ bit. bit) (take i bits)) d)
spread-here bits xs i d many on =
    get_or-spread bits xs i ∙ ap (λ b. cond b (slice_get xs (count_by (λ bit. bit) (take i bits))) None) on
    ∙ slice_get-get_or xs (count_by (λ bit. bit) (take i bits)) d (omega (arith, rank-lt bits i on, many))
