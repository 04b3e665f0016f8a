-- The place of a key in entries in the order of their keys.
use borrow.Author.Tests.{ltb-true, ltb-false}
use Rattle.std.proofs.Common.{◌≡◌, false, refl, Less, Equal, Greater, Ordering, is_eq, ℕ, List, zero, suc, ◌<◌, [], ◌∷◌, length, get_or, arith, T, ◌≤◌, true, ◌⊎◌, inl, inr, ltb, subst, le_refl, cond, sym, ap, ◌∙◌, Some, None, Result, Ok, Err}
use Rattle.std.specs.Cmp.{tied_back}
use Rattle.std.specs.Cmp.Lexicographic.{nat_list_cmp_total}
use Rattle.std.specs.FinMap.{is_sorted, find}
use Rattle.std.specs.FinMap.Entries.{below_all}
use Rattle.std.specs.List.Sorted.{IsNonDecreasingBy, IsPartitionPoint, IsSearchInRange, IsBinarySearchResult}
use Rattle.std.specs.Ordering.{ordering_index}
use Rattle.std.specs.Result.{result_ok}
use Rattle.jf_path.specs.Keys.{key_cmp}
use Rattle.jf_path.proofs.BoolLaws.{left_so, right_so}
use Rattle.jf_path.proofs.OrderLaws.{Less-from_is_lt}
use Rattle.jf_hash.proofs.KeyOrder.{no_higher, same_key-exact}
use Rattle.jf_model.specs.Changes.{MapEntry}
use Rattle.jf_plain.specs.Entries.{IsPlaceInMap}

not_equal : (o : Ordering) → (o ≡ Equal → ⊥) → is_eq o ≡ false
not_equal Less h = refl
not_equal Equal h = absurd (h refl)
not_equal Greater h = refl

less_not_equal : Less ≡ Equal → ⊥
less_not_equal e = cc

greater_not_equal : Greater ≡ Equal → ⊥
greater_not_equal e = cc

turned : (x y : List ℕ) → key_cmp x y ≡ Equal → key_cmp y x ≡ Equal
turned x y e = tied_back nat_list_cmp_total x y e

below-at : (k : List ℕ) (es : List MapEntry) (i : ℕ) (d : MapEntry) → T (below_all key_cmp k es) → i < length es → key_cmp k (get_or es i d).0 ≡ Less
below-at k [] i d h lt = absurd (omega arith)
below-at k (e ∷ es) zero d h lt = Less-from_is_lt _ (left_so _ _ h)
below-at k (e ∷ es) (suc i) d h lt = below-at k es i d (right_so _ _ h) (omega arith)

-- an earlier key is below a later one
rising : (es : List MapEntry) (i j : ℕ) (d : MapEntry) → T (is_sorted key_cmp es) → i < j → j < length es → key_cmp (get_or es i d).0 (get_or es j d).0 ≡ Less
rising [] i j d h lt short = absurd (omega arith)
rising (e ∷ es) i zero d h lt short = absurd (omega arith)
rising (e ∷ es) zero (suc j) d h lt short = below-at e.0 es j d (left_so _ _ h) (omega arith)
rising (e ∷ es) (suc i) (suc j) d h lt short = rising es i j d (right_so _ _ h) (omega arith) (omega arith)

same_place : (i j : ℕ) → i ≤ j → (i < j) ⊎ (i ≡ j)
same_place i j le = elim (ltb i j) as (λ b. ltb i j ≡ b → (i < j) ⊎ (i ≡ j)) [
  | true ↦ λ is. inl (ltb-true i j is)
  | false ↦ λ is. inr (let h = ltb-false i j is in omega arith)
] refl

-- the results of comparing each entry with a key don't decrease
steady : (q : List ℕ) (es : List MapEntry) → T (is_sorted key_cmp es) → IsNonDecreasingBy (λ (e : MapEntry). ordering_index (key_cmp e.0 q)) es
steady q es sorted i j d le short = elim (same_place i j le) [
  | inl lt ↦ no_higher _ _ q (rising es i j d sorted lt short)
  | inr same ↦ subst (λ k. ordering_index (key_cmp (get_or es i d).0 q) ≤ ordering_index (key_cmp (get_or es k d).0 q)) same (le_refl _)
]

found : (q : List ℕ) (es : List MapEntry) (i : ℕ) (d : MapEntry) → T (is_sorted key_cmp es) → i < length es → key_cmp (get_or es i d).0 q ≡ Equal → find key_cmp q es ≡ Some (get_or es i d).1
found q [] i d h lt is = absurd (omega arith)
found q (e ∷ es) zero d h lt is = ap (λ b. cond b (Some e.1) (find key_cmp q es)) (ap is_eq (turned e.0 q is))
found q (e ∷ es) (suc i) d h lt is =
    let apart : key_cmp q e.0 ≡ Equal → ⊥ = λ same.
    less_not_equal (sym (below-at e.0 es i d (left_so _ _ h) (omega arith)) ∙ ap (λ k. key_cmp k (get_or es i d).0) (sym (same_key-exact q e.0 same)) ∙ turned (get_or es i d).0 q is) in
    ap (λ b. cond b (Some e.1) (find key_cmp q es)) (not_equal (key_cmp q e.0) apart) ∙ found q es i d (right_so _ _ h) (omega arith) is

missing : (q : List ℕ) (es : List MapEntry) → ((k : ℕ) (d : MapEntry) → k < length es → key_cmp (get_or es k d).0 q ≡ Equal → ⊥) → find key_cmp q es ≡ None
missing q [] none = refl
missing q (e ∷ es) none =
    ap (λ b. cond b (Some e.1) (find key_cmp q es)) (not_equal (key_cmp q e.0) (λ same. none 0 e (omega arith) (turned q e.0 same)))
    ∙ missing q es (λ k d lt. none (suc k) d (omega arith))

around : (q : List ℕ) (es : List MapEntry) (i : ℕ) → IsPartitionPoint (λ (e : MapEntry). key_cmp e.0 q ≡ Less) (λ e. key_cmp e.0 q ≡ Greater) es i → (k : ℕ) (d : MapEntry) → k < length es → key_cmp (get_or es k d).0 q ≡ Equal → ⊥
around q es i cut k d lt same = elim (ltb k i) as (λ b. ltb k i ≡ b → ⊥) [
  | true ↦ λ is. less_not_equal (sym (cut.0 k d (omega arith) (ltb-true k i is)) ∙ same)
  | false ↦ λ is. greater_not_equal (sym (cut.1 k d (let h = ltb-false k i is in omega arith) lt) ∙ same)
] refl

-- a binary search returns the place of the key
pub placed : (q : List ℕ) (es : List MapEntry) (r : Result ℕ ℕ) → T (is_sorted key_cmp es) → IsSearchInRange r (length es) → IsBinarySearchResult (λ (e : MapEntry). key_cmp e.0 q) es r → IsPlaceInMap q es (result_ok r)
placed q es (Ok i) sorted lt at = (lt, λ d. found q es i d sorted lt (at d))
placed q es (Err i) sorted le cut = missing q es (around q es i (cut (steady q es sorted)))
