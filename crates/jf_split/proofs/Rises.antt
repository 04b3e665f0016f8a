-- If two keys begin with the same nibbles, the lesser key has no greater nibble after them.
use Rattle.std.proofs.Common.{◌≡◌, ℕ, ◌≤◌, arith, Less, Ordering, zero, suc, ◌<◌, List, [], ◌∷◌, length, get_or, ◌*◌, ◌/◌, slice_index, subst, ◌+◌, ◌%◌, inl, inr, Option, eq-or-lt_of_le, T}
use Rattle.std.proofs.lemmas.Bool.{cases_eq}
use Rattle.std.proofs.lemmas.Bool.Decides.{nat_tests}
use Rattle.std.specs.Cmp.Lexicographic.{slice_cmp}
use Rattle.std.specs.FinMap.{is_sorted}
use Rattle.std.specs.List.{AllByRecursion}
use Rattle.std.specs.List.Sorted.{IsNonDecreasingBy}
use Rattle.std.specs.Ordering.{nat_cmp, ordering_then}
use Rattle.jf_path.specs.Keys.{IsKey, key_cmp}
use Rattle.jf_path.specs.Nibbles.{nibble}
use Rattle.jf_path.proofs.NibbleLaws.{nibble-even, nibble-odd}
use Rattle.jf_hash.specs.Maps.{Batch}
use Rattle.jf_hash.proofs.KeyOrder.{sorted-rises}
use Rattle.jf_split.specs.Pieces.{AgreeBefore}

-- the lesser of two lists has no greater first number
first_no_greater : (x y : ℕ) (o : Ordering) → ordering_then (nat_cmp x y) o ≡ Less → x ≤ y
first_no_greater x y o less = grind (arith, nat_tests)

-- if the first numbers are equal, the rest decide
rest_less : (x y : ℕ) (o : Ordering) → x ≡ y → ordering_then (nat_cmp x y) o ≡ Less → o ≡ Less
rest_less x y o same less = grind (arith, nat_tests)

-- if two lists agree before place m, the lesser has no greater number there
pub slice_cmp-place : (a b : List ℕ) (m : ℕ) → slice_cmp nat_cmp a b ≡ Less → m < length a → m < length b → ((i : ℕ) → i < m → get_or a i 0 ≡ get_or b i 0) → get_or a m 0 ≤ get_or b m 0
slice_cmp-place [] b m less la lb same = absurd (omega arith)
slice_cmp-place (x ∷ a) [] m less la lb same = absurd (omega arith)
slice_cmp-place (x ∷ a) (y ∷ b) zero less la lb same = first_no_greater x y _ less
slice_cmp-place (x ∷ a) (y ∷ b) (suc m) less la lb same =
    slice_cmp-place a b m (rest_less x y _ (same 0 (omega arith)) less) (omega arith) (omega arith) (λ i lt. same (suc i) (omega arith))

-- the halves of byte p of a key
high : (key : List ℕ) (p : ℕ) → IsKey key → nibble key (2 * p) ≡ slice_index key p / 16
high key p is =
    let place : 2 * p / 2 ≡ p = omega arith in
    subst (λ q. nibble key (2 * p) ≡ slice_index key q / 16) place (nibble-even key (2 * p) (is.bytes (2 * p / 2)) (omega arith))

low : (key : List ℕ) (p : ℕ) → nibble key (2 * p + 1) ≡ slice_index key p % 16
low key p =
    let place : (2 * p + 1) / 2 ≡ p = omega arith in
    subst (λ q. nibble key (2 * p + 1) ≡ slice_index key q % 16) place (nibble-odd key (2 * p + 1) (omega arith))

-- keys whose first nibbles are the same have the same first bytes
byte_same : (a b : List ℕ) (d p : ℕ) → IsKey a → IsKey b → ((i : ℕ) → i < d → nibble a i ≡ nibble b i) → 2 * p + 1 < d → slice_index a p ≡ slice_index b p
byte_same a b d p ka kb same within =
    omega (arith, high a p ka, high b p kb, low a p, low b p, same (2 * p) (omega arith), same (2 * p + 1) (omega arith))

-- if two keys agree in their first nibbles, the lesser has no greater nibble after them
pub nibble-no_greater : (a b : List ℕ) (d : ℕ) → IsKey a → IsKey b → d < 64 → ((i : ℕ) → i < d → nibble a i ≡ nibble b i) → key_cmp a b ≡ Less → nibble a d ≤ nibble b d
nibble-no_greater a b d ka kb within same less =
    let p = d / 2 in
    let byte : slice_index a p ≤ slice_index b p = slice_cmp-place a b p less (omega (arith, ka.long)) (omega (arith, kb.long)) (λ q lt. byte_same a b d q ka kb same (omega arith)) in
    elim (cases_eq (d % 2) 0) [
      | inl even ↦
          let is : 2 * p ≡ d = omega arith in
          subst (λ i. nibble a i ≤ nibble b i) is (omega (arith, high a p ka, high b p kb, byte))
      | inr odd ↦
          let is : 2 * p + 1 ≡ d = omega arith in
          subst (λ i. nibble a i ≤ nibble b i) is (omega (arith, high a p ka, high b p kb, low a p, low b p, same (2 * p) (omega arith), byte))
    ]

key_at : (b : Batch) (i : ℕ) (e : List ℕ × Option (List ℕ)) → AllByRecursion (λ f. IsKey f.0) b → i < length b → IsKey (get_or b i e).0
key_at [] i e keys lt = absurd (omega arith)
key_at (f ∷ fs) zero e keys lt = keys.0
key_at (f ∷ fs) (suc i) e keys lt = key_at fs i e keys.1 (omega arith)

-- if the keys of a batch agree in their first nibbles, the nibble after them doesn't fall along the batch
pub IsNonDecreasingBy-nibble : (depth : ℕ) (b : Batch) → depth < 64 → T (is_sorted key_cmp b) → AllByRecursion (λ e. IsKey e.0) b → AgreeBefore depth b → IsNonDecreasingBy (λ e. nibble e.0 depth) b
IsNonDecreasingBy-nibble depth b within sorted keys agree = λ i j e le lt. elim (eq-or-lt_of_le le) [
  | inl here ↦ subst (λ m. nibble (get_or b i e).0 depth ≤ nibble (get_or b m e).0 depth) here (omega arith)
  | inr later ↦ nibble-no_greater (get_or b i e).0 (get_or b j e).0 depth (key_at b i e keys (omega arith)) (key_at b j e keys lt) within (agree i j e later lt) (sorted-rises b i j e sorted later lt)
]
