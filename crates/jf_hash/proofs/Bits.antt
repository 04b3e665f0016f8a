-- The order of keys is that of their bits.
use Rattle.std.proofs.Common.{◌≡◌, ℕ, suc, ◌+◌, ◌-◌, ◌/◌, ◌^◌, sym, ap, ◌∙◌, arith, ◌%◌, ◌<◌, zero, div-one, ◌≤◌, inl, inr, pow-suc, eq-or-lt_of_le, List, length, slice_index, ◌∷◌, [], refl, Less, Equal, Greater, nat_cmp, ◌*◌, true, false, ◌==◌, ap₂, true≢false, Bool}
use Rattle.std.proofs.lemmas.Bool.{cases_lt}
use Rattle.std.proofs.lemmas.Nat.{shr-shr}
use Rattle.std.specs.Cmp.{ranked}
use Rattle.std.specs.Ordering.{ordering_then}
use Rattle.jf_path.specs.Keys.{key_cmp, bit, IsKey}
use Rattle.jf_hash.proofs.KeyOrder.{same_key-exact, key_cmp-turned}

halved : (x i : ℕ) → x / 2 ^ suc i ≡ x / 2 / 2 ^ i
halved x i = ap (λ k. x / 2 ^ k) (let e : suc i ≡ 1 + i = omega arith in e) ∙ sym (shr-shr x 1 i)

-- the highest bit in which two numbers differ
pub record Apart (x y k : ℕ) : Type 0 where
  pub above : (i : ℕ) → k < i → x / 2 ^ i % 2 ≡ y / 2 ^ i % 2
  pub low : x / 2 ^ k % 2 ≡ 0
  pub high : y / 2 ^ k % 2 ≡ 1

twice_above : (x y k i : ℕ) → Apart (x / 2) (y / 2) k → suc k < i → x / 2 ^ i % 2 ≡ y / 2 ^ i % 2
twice_above x y k zero a lt = absurd (omega arith)
twice_above x y k (suc i) a lt = ap (λ v. v % 2) (halved x i) ∙ a.above i (omega arith) ∙ ap (λ v. v % 2) (sym (halved y i))

same_above : (x y i : ℕ) → x / 2 ≡ y / 2 → 0 < i → x / 2 ^ i % 2 ≡ y / 2 ^ i % 2
same_above x y zero e lt = absurd (omega arith)
same_above x y (suc i) e lt = ap (λ v. v % 2) (halved x i) ∙ ap (λ v. v / 2 ^ i % 2) e ∙ ap (λ v. v % 2) (sym (halved y i))

last_bit : (x y : ℕ) → x / 2 ≡ y / 2 → x < y → (x / 2 ^ 0 % 2 ≡ 0) × (y / 2 ^ 0 % 2 ≡ 1)
last_bit x y e lt = (rw (div-one x) (omega arith), rw (div-one y) (omega arith))

pub first_apart : (n x y : ℕ) → x < y → y < 2 ^ n → (k : ℕ) × (k < n) × Apart x y k
first_apart zero x y lt below = absurd (omega arith)
first_apart (suc n) x y lt below =
    let half_below : y / 2 < 2 ^ n = omega (arith, pow-suc 2 n) in
    let no_more : x / 2 ≤ y / 2 = omega arith in
    elim (eq-or-lt_of_le no_more) [
      | inr h ↦ let r = first_apart n (x / 2) (y / 2) h half_below in (
        suc r.0,
        omega arith,
        record {
          above = λ i up. twice_above x y r.0 i r.2 up;
          low = ap (λ v. v % 2) (halved x r.0) ∙ r.2.low;
          high = ap (λ v. v % 2) (halved y r.0) ∙ r.2.high;
        },
      )
      | inl e ↦ (0, omega arith, record { above = λ i up. same_above x y i e up; low = (last_bit x y e lt).0; high = (last_bit x y e lt).1 })
    ]

-- p is the first place at which two lists of one length differ, where the first list is less
pub record Differ (a b : List ℕ) (p : ℕ) : Type 0 where
  pub within : p < length a
  pub before : (q : ℕ) → q < p → slice_index a q ≡ slice_index b q
  pub at : slice_index a p < slice_index b p

further : (x y : ℕ) (a b : List ℕ) → x ≡ y → (p : ℕ) → Differ a b p → Differ (x ∷ a) (y ∷ b) (suc p)
further x y a b e p d = record {
  within = let w = d.within in omega arith;
  before = λ q. before q;
  at = d.at;
}
  where
    before : (q : ℕ) → q < suc p → slice_index (x ∷ a) q ≡ slice_index (y ∷ b) q
    before zero lt = e
    before (suc q) lt = d.before q (omega arith)

pub first_differ : (a b : List ℕ) → length a ≡ length b → key_cmp a b ≡ Less → (p : ℕ) × Differ a b p
first_differ [] [] long is = absurd (cc)
first_differ [] (y ∷ b) long is = absurd (omega arith)
first_differ (x ∷ a) [] long is = absurd (omega arith)
first_differ (x ∷ a) (y ∷ b) long is =
    elim (nat_cmp x y) as (λ r. r ≡ nat_cmp x y → ordering_then r (key_cmp a b) ≡ Less → (p : ℕ) × Differ (x ∷ a) (y ∷ b) p) [
      | Less ↦ λ r is. (0, record { within = omega arith; before = λ q lt. absurd (omega arith); at = ranked x y Less r })
      | Equal ↦ λ r is. let d = first_differ a b (omega arith) is in (suc d.0, further x y a b (ranked x y Equal r) d.0 d.1)
      | Greater ↦ λ r is. absurd (cc)
    ] refl is

-- i is the first bit in which two keys differ, where the first key has 0
pub record FirstBit (a b : List ℕ) (i : ℕ) : Type 0 where
  pub within : i < 8 * length a
  pub before : (j : ℕ) → j < i → bit a j ≡ bit b j
  pub zero_there : bit a i ≡ false
  pub one_there : bit b i ≡ true

at_byte : (p k j : ℕ) → k < 8 → j ≡ 8 * p + (7 - k) → (j / 8 ≡ p) × (7 - j % 8 ≡ k)
at_byte p k j lt e = (omega arith, omega arith)

bits_before : (a b : List ℕ) (p k : ℕ) → Differ a b p → Apart (slice_index a p) (slice_index b p) k → k < 8 → (j : ℕ) → j < 8 * p + (7 - k) → bit a j ≡ bit b j
unfolding bit
bits_before a b p k d apart small j lt =
    let no_later : j / 8 ≤ p = omega arith in
    elim (eq-or-lt_of_le no_later) [
      | inr earlier ↦ ap (λ v. v / 2 ^ (7 - j % 8) % 2 == 1) (d.before (j / 8) earlier)
      | inl here ↦ let up : k < 7 - j % 8 = omega arith in
          ap (λ q. slice_index a q / 2 ^ (7 - j % 8) % 2 == 1) here ∙ ap (λ v. v == 1) (apart.above (7 - j % 8) up)
          ∙ ap (λ q. slice_index b q / 2 ^ (7 - j % 8) % 2 == 1) (sym here)
    ]

bit_at : (a : List ℕ) (p k j v : ℕ) → k < 8 → j ≡ 8 * p + (7 - k) → slice_index a p / 2 ^ k % 2 ≡ v → bit a j ≡ (v == 1)
unfolding bit
bit_at a p k j v small e is =
    let places = at_byte p k j small e in
    ap₂ (λ q s. slice_index a q / 2 ^ s % 2 == 1) places.0 places.1 ∙ ap (λ w. w == 1) is

pub first_bit : (a b : List ℕ) → length a ≡ length b → ((i : ℕ) → slice_index b i < 256) → key_cmp a b ≡ Less → (i : ℕ) × FirstBit a b i
first_bit a b long bytes is =
    let d = first_differ a b long is in
    let k = first_apart 8 (slice_index a d.0) (slice_index b d.0) d.1.at (bytes d.0) in
    let w = d.1.within in (
      8 * d.0 + (7 - k.0),
      record {
        within = omega arith;
        before = bits_before a b d.0 k.0 d.1 k.2 k.1;
        zero_there = bit_at a d.0 k.0 _ 0 k.1 refl k.2.low;
        one_there = bit_at b d.0 k.0 _ 1 k.1 refl k.2.high;
      },
    )

-- ---- keys with the same bits
keys_apart : (a b : List ℕ) → IsKey a → IsKey b → ((i : ℕ) → i < 256 → bit a i ≡ bit b i) → key_cmp a b ≡ Less → ⊥
keys_apart a b ka kb same lt =
    let f = first_bit a b (ka.long ∙ sym kb.long) kb.bytes lt in
    let w = f.1.within in
    let long = ka.long in
    true≢false (sym f.1.one_there ∙ sym (same f.0 (omega arith)) ∙ f.1.zero_there)

-- keys with the same bits are equal
pub same_bits : (a b : List ℕ) → IsKey a → IsKey b → ((i : ℕ) → i < 256 → bit a i ≡ bit b i) → a ≡ b
same_bits a b ka kb same = elim (key_cmp a b) as (λ r. key_cmp a b ≡ r → a ≡ b) [
  | Less ↦ λ is. absurd (keys_apart a b ka kb same is)
  | Equal ↦ λ is. same_key-exact a b is
  | Greater ↦ λ is. absurd (keys_apart b a kb ka (λ i lt. sym (same i lt)) (key_cmp-turned a b Greater is))
] refl

-- if two different keys agree in their first d bits, d is below 256
pub two_keys : (d : ℕ) (path : ℕ → Bool) (a b : List ℕ) → IsKey a → IsKey b → ((i : ℕ) → i < d → bit a i ≡ path i) → ((i : ℕ) → i < d → bit b i ≡ path i) → ¬ (a ≡ b) → d < 256
two_keys d path a b ka kb pa pb differ = elim (cases_lt d 256) [
  | inl lt ↦ lt
  | inr past ↦ absurd (differ (same_bits a b ka kb (λ i lt. pa i (omega arith) ∙ sym (pb i (omega arith)))))
]
