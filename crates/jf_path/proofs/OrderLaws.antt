-- What the answers of comparisons say.
use Rattle.std.specs.Prelude.{true}
use Rattle.std.proofs.Common.{◌≡◌, refl, T, Ordering, Less, Equal, Greater, is_lt, is_eq, sym, subst, ℕ, arith, nat_cmp, ◌<◌, ◌≤◌}
use Rattle.std.proofs.lemmas.Bool.Decides.{nat_tests}
use Rattle.std.specs.Ordering.{ordering_index, ordering_then}

pub Less-from_is_lt : (o : Ordering) → T (is_lt o) → o ≡ Less
Less-from_is_lt Less h = refl
Less-from_is_lt Equal h = absurd h
Less-from_is_lt Greater h = absurd h

pub Equal-from_is_eq : (o : Ordering) → is_eq o ≡ true → o ≡ Equal
Equal-from_is_eq Less h = absurd (cc)
Equal-from_is_eq Equal h = refl
Equal-from_is_eq Greater h = absurd (cc)

-- the test of an order passes if the order is `Less`
pub is_lt-from_Less : (o : Ordering) → o ≡ Less → T (is_lt o)
is_lt-from_Less o h = subst (λ r. T (is_lt r)) (sym h) tt

pub nat_tied : (n : ℕ) → nat_cmp n n ≡ Equal
nat_tied n = grind (arith, nat_tests)

pub nat_less : (n m : ℕ) → n < m → nat_cmp n m ≡ Less
nat_less n m lt = grind (arith, nat_tests)

pub nat_greater : (n m : ℕ) → m < n → nat_cmp n m ≡ Greater
nat_greater n m lt = grind (arith, nat_tests)

pub ordering_index-most : (o : Ordering) → ordering_index o ≤ 2
ordering_index-most Less = omega arith
ordering_index-most Equal = omega arith
ordering_index-most Greater = omega arith

pub both_equal : (r s : Ordering) → ordering_then r s ≡ Equal → (r ≡ Equal) × (s ≡ Equal)
both_equal Less s is = absurd (cc)
both_equal Equal s is = (refl, is)
both_equal Greater s is = absurd (cc)
