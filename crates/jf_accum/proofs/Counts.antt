-- How many hashes the left part has: a power of two, less than all, and at least half of them.
use Rattle.std.specs.Prelude.{◌≡◌, ℕ, zero, suc, ◌+◌, ◌-◌, ◌^◌, ◌<◌, ◌≤◌, nat_lt, true, false, List, length, if◌then◌else◌}
use Rattle.std.proofs.Common.{arith, sym, ap, ◌∙◌, refl, inl, inr, length-take, length-drop}
use Rattle.std.proofs.Math.Nat.{pow-le-pow_right}
use Rattle.std.proofs.lemmas.Nat.{pow_pos}
use Rattle.std.proofs.lemmas.Bool.{cases_order}
use Rattle.std.proofs.lemmas.Bool.Decides.{nat_tests}
use Rattle.jf_path.proofs.NumberLaws.{double}
use Rattle.jf_accum.specs.Totals.{power_below, left_count, lefts, rights}

-- a number is below its power of two
below_power : (n : ℕ) → n < 2 ^ n
below_power zero = pow_pos 0
below_power (suc n) = omega (arith, double n, below_power n, pow_pos n)

-- the exponent r with 2 ^ r < n ≤ 2 ^ (r + 1)
pub record HasLevel (n r : ℕ) : Type 0 where
  pub above : 2 ^ r < n
  pub within : n ≤ 2 ^ suc r

pub HasLevel-one : (n r s : ℕ) → HasLevel n r → HasLevel n s → r ≡ s
HasLevel-one n r s h k =
    let low = h.above in
    let high = h.within in
    let low' = k.above in
    let high' = k.within in
    elim (cases_order r s) [
      | inl same ↦ same
      | inr other ↦ elim other [
        | inl lt ↦ let up : suc r ≤ s = omega arith in absurd (omega (arith, pow-le-pow_right {n = 2} (omega arith) up))
        | inr gt ↦ let up : suc s ≤ r = omega arith in absurd (omega (arith, pow-le-pow_right {n = 2} (omega arith) up))
      ]
    ]

power_below-level : (j n : ℕ) → 1 < n → n ≤ 2 ^ suc j → (r : ℕ) × (power_below j n ≡ 2 ^ r) × HasLevel n r
unfolding power_below
power_below-level zero n two within = (0, refl, record { above = two; within = within })
power_below-level (suc j) n two within =
    elim (nat_lt (2 ^ suc j) n) as (λ b. nat_lt (2 ^ suc j) n ≡ b → (r : ℕ) × ((if b then 2 ^ suc j else power_below j n) ≡ 2 ^ r) × HasLevel n r) [
      | true ↦ λ is. (suc j, refl, record { above = grind (arith, nat_tests); within = within })
      | false ↦ λ is. power_below-level j n two (grind (arith, nat_tests))
    ] refl

-- the left part has a power of two, fewer than all, and at least half of them
pub left_count-level : (n : ℕ) → 1 < n → (r : ℕ) × (left_count n ≡ 2 ^ r) × HasLevel n r
unfolding left_count
left_count-level n two = power_below-level n n two (omega (arith, below_power n, double n))

pub left_count-is : (n r : ℕ) → HasLevel n r → left_count n ≡ 2 ^ r
left_count-is n r h =
    let low = h.above in
    let some = pow_pos r in
    let found = left_count-level n (omega arith) in
    found.1 ∙ ap (λ k. 2 ^ k) (HasLevel-one n found.0 r found.2 h)

-- what is said of the left part by comparing numbers alone
pub record IsLeftCount (n k : ℕ) : Type 0 where
  pub positive : 0 < k
  pub below : k < n
  pub half : n ≤ k + k

pub left_count-tells : (n : ℕ) → 1 < n → IsLeftCount n (left_count n)
left_count-tells n two =
    let found = left_count-level n two in
    let is : left_count n ≡ 2 ^ found.0 = found.1 in
    let low = found.2.above in
    let high = found.2.within in
    record { positive = omega (arith, is, pow_pos found.0); below = omega (arith, is); half = omega (arith, is, double found.0) }

-- a number between the left part and all has the same left part
pub left_count-same : (n m : ℕ) → 1 < n → left_count n < m → m ≤ n → left_count m ≡ left_count n
left_count-same n m two above within =
    let found = left_count-level n two in
    let is : left_count n ≡ 2 ^ found.0 = found.1 in
    let high = found.2.within in
    left_count-is m found.0 (record { above = omega (arith, is); within = omega arith }) ∙ sym is

-- twice a left part, which is a power of two, is cut in two
pub left_count-double : (n : ℕ) → 1 < n → left_count (left_count n + left_count n) ≡ left_count n
left_count-double n two =
    let found = left_count-level n two in
    let is : left_count n ≡ 2 ^ found.0 = found.1 in
    left_count-is (left_count n + left_count n) found.0 (record { above = omega (arith, is, pow_pos found.0); within = omega (arith, is, double found.0) }) ∙ sym is

-- ---- the parts of a list
pub length-lefts : (hs : List (List ℕ)) → 1 < length hs → length (lefts hs) ≡ left_count (length hs)
length-lefts hs two = let tells = left_count-tells (length hs) two in let below = tells.below in omega (arith, length-take (left_count (length hs)) hs)

pub length-rights : (hs : List (List ℕ)) → length (rights hs) ≡ length hs - left_count (length hs)
length-rights hs = length-drop (left_count (length hs)) hs

-- both parts are shorter than the whole
pub lefts-short : (hs : List (List ℕ)) (n : ℕ) → 1 < length hs → length hs ≤ suc n → length (lefts hs) ≤ n
lefts-short hs n two short = let tells = left_count-tells (length hs) two in let below = tells.below in omega (arith, length-lefts hs two)

pub rights-short : (hs : List (List ℕ)) (n : ℕ) → 1 < length hs → length hs ≤ suc n → length (rights hs) ≤ n
rights-short hs n two short = let tells = left_count-tells (length hs) two in let some = tells.positive in omega (arith, length-rights hs)

even_power : (r k : ℕ) → k ≡ 2 ^ r → 1 < k → k ≡ left_count k + left_count k
even_power zero k is more = absurd (omega arith)
even_power (suc r) k is more =
    let half : left_count k ≡ 2 ^ r = left_count-is k r (record { above = omega (arith, double r, pow_pos r); within = omega arith }) in
    omega (arith, double r, half)

-- a left part of two or more has two equally long parts
pub left_count-even : (n : ℕ) → 1 < n → 1 < left_count n → left_count n ≡ left_count (left_count n) + left_count (left_count n)
left_count-even n two more =
    let found = left_count-level n two in
    even_power found.0 (left_count n) found.1 more
