-- The bits of a number as a list, and lists that a bitmap spreads over places.
use Rattle.std.specs.Prelude.{◌≡◌, ℕ, zero, suc, ◌+◌, ◌/◌, ◌%◌, ◌^◌, ◌<◌, ◌==◌, Bool, true, false, cond, List, [], ◌∷◌, Option, Some, None}
use Rattle.std.specs.Simd.Lanes.{mask_l}
use Rattle.std.proofs.Common.{arith, ap, ◌∙◌, mod-eq_of_lt}
use Rattle.std.proofs.lemmas.Bool.Decides.{nat_tests}
use Rattle.std.proofs.lemmas.Nat.{mod-pow-add}

-- the k lowest bits of a number, the lowest first
unfoldable pub bits_of : ℕ → ℕ → List Bool
bits_of zero n = []
bits_of (suc k) n = (n % 2 == 1) ∷ bits_of k (n / 2)

-- items spread over places: the next item where a bit is set, if one is left, and nothing elsewhere
unfoldable pub spread_items : {X : Type 0} → List Bool → List X → List (Option X)
spread_items [] xs = []
spread_items (false ∷ bits) xs = None ∷ spread_items bits xs
spread_items (true ∷ bits) [] = None ∷ spread_items bits []
spread_items (true ∷ bits) (x ∷ xs) = Some x ∷ spread_items bits xs

-- the items that are there, in their order
unfoldable pub present : {X : Type 0} → List (Option X) → List X
present [] = []
present (None ∷ xs) = present xs
present (Some x ∷ xs) = x ∷ present xs

-- ---- a number is known from its bits
lowest : (n : ℕ) → cond (n % 2 == 1) 1 0 ≡ n % 2
lowest n = grind (arith, nat_tests)

pub mask-bits_of : (k n : ℕ) → mask_l (bits_of k n) ≡ n % 2 ^ k
unfolding bits_of
mask-bits_of zero n = omega arith
mask-bits_of (suc k) n = let more : suc k ≡ k + 1 = omega arith in omega (arith, lowest n, mask-bits_of k (n / 2), mod-pow-add n k 1, ap (λ m. n % 2 ^ m) more)

pub bits_again : {X : Type 0} (make : ℕ → X) (n : ℕ) → n < 2 ^ 16 → make (mask_l (bits_of 16 n)) ≡ make n
bits_again make n small = ap make (mask-bits_of 16 n ∙ mod-eq_of_lt small)
