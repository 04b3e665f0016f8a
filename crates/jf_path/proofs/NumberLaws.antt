-- Tests of numbers, the inequalities that follow from them, and small sums.
use Rattle.std.proofs.Common.{◌≡◌, ℕ, suc, ◌+◌, ◌-◌, ◌^◌, ◌<◌, ◌≤◌, true, false, ◌==◌, nat_le, nat_lt, arith, pow-suc}
use Rattle.std.proofs.lemmas.Bool.Decides.{nat_tests}

pub same_number : (a b : ℕ) → a ≡ b → (a == b) ≡ true
same_number a b is = grind (arith, nat_tests)

pub number_tells : (a b : ℕ) → (a == b) ≡ true → a ≡ b
number_tells a b is = grind (arith, nat_tests)

pub other_number : (a b : ℕ) → (a ≡ b → ⊥) → (a == b) ≡ false
other_number a b apart = grind (arith, nat_tests)

pub le_tells : (a b : ℕ) → nat_le a b ≡ true → a ≤ b
le_tells a b is = grind (arith, nat_tests)

pub le_so : (a b : ℕ) → a ≤ b → nat_le a b ≡ true
le_so a b is = grind (arith, nat_tests)

pub le_no : (a b : ℕ) → b < a → nat_le a b ≡ false
le_no a b above = grind (arith, nat_tests)

pub lt_tells : (a b : ℕ) → nat_lt a b ≡ true → a < b
lt_tells a b is = grind (arith, nat_tests)

pub lt_so : (a b : ℕ) → a < b → nat_lt a b ≡ true
lt_so a b is = grind (arith, nat_tests)

pub lt_no : (a b : ℕ) → b ≤ a → nat_lt a b ≡ false
lt_no a b above = grind (arith, nat_tests)

-- ---- counting down, and up by one
pub some_left : (m : ℕ) → nat_lt 0 (suc m) ≡ true
some_left m = grind (arith, nat_tests)

pub none_left : nat_lt 0 0 ≡ false
none_left = grind (arith, nat_tests)

pub one_less : (m : ℕ) → suc m - 1 ≡ m
one_less m = omega arith

pub is_next : (at n : ℕ) → at ≡ n + 1 → (at == n + 1) ≡ true
is_next at n h = grind (arith, nat_tests)

pub is_before : (at n : ℕ) → at ≤ n → (at == n + 1) ≡ false
is_before at n h = grind (arith, nat_tests)

-- ---- powers
-- a power of two is twice the one before
pub double : (j : ℕ) → 2 ^ suc j ≡ 2 ^ j + 2 ^ j
double j = omega (arith, pow-suc 2 j)
