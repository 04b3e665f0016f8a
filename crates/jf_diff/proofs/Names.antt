-- Lists of names that rise strictly.
use Rattle.std.proofs.Common.{Bool, true, false, ◌&&◌, IsTrue, ◌+◌, List, [], ◌∷◌, ◌++◌, refl, is_lt, ◌≡◌, sym, ap, ◌∙◌, Less, Equal, Greater, Ordering, is_eq, true≢false, suc, get_or, subst, arith}
use Rattle.std.proofs.lemmas.Cmp.{eq_by_cmp_equiv}
use Rattle.std.proofs.lemmas.Map.Keys.{IsDistinct-head, IsDistinct-tail, IsDistinct-IsPermutation}
use Rattle.std.specs.List.{IsDistinct}
use Rattle.std.specs.List.Sorted.{IsSorted, IsPermutation}
use Rattle.std.specs.Ordering.{ordering_reverse, eq_by_cmp}
use Rattle.jf_path.specs.declared.name.NodeName.{NodeName}
use Rattle.jf_path.specs.Names.{name_cmp, are_rising}
use Rattle.jf_path.specs.NameLaws.{name_cmp_total}
use Rattle.jf_path.proofs.BoolLaws.{left_true, right_true}

pub both_true : (a b : Bool) → IsTrue a → IsTrue b → IsTrue (a && b)
both_true true b p q = q
both_true false b p q = p

-- the front of names that rise
pub are_rising-front : (xs ys : List NodeName) → IsTrue (are_rising (xs ++ ys)) → IsTrue (are_rising xs)
are_rising-front [] ys h = refl
are_rising-front (x ∷ []) ys h = refl
are_rising-front (x ∷ z ∷ xs) ys h = both_true _ _ (left_true _ _ h) (are_rising-front (z ∷ xs) ys (right_true (is_lt (name_cmp x z)) _ h))

above : (r s : Ordering) → r ≡ ordering_reverse s → is_lt s ≡ false → is_eq r ≡ false → is_lt r ≡ true
above r Less e low other = absurd (true≢false low)
above r Equal e low other = absurd (true≢false (sym (ap is_eq e) ∙ other))
above r Greater e low other = ap is_lt e

-- distinct names in order rise strictly
pub are_rising-sorted : (xs : List NodeName) → IsSorted name_cmp xs → IsDistinct (eq_by_cmp name_cmp) xs → IsTrue (are_rising xs)
are_rising-sorted [] sorted distinct = refl
are_rising-sorted (x ∷ []) sorted distinct = refl
are_rising-sorted (x ∷ z ∷ xs) sorted distinct =
    both_true _ _
    (above (name_cmp x z) (name_cmp z x) (name_cmp_total.antisymm x z) (sorted 0 x (omega arith) (omega arith)) (IsDistinct-head (eq_by_cmp name_cmp) x (z ∷ xs) distinct).0)
    (are_rising-sorted (z ∷ xs) (λ k d low high. subst (λ j. is_lt (name_cmp (get_or (x ∷ z ∷ xs) j d) (get_or (x ∷ z ∷ xs) (suc k) d)) ≡ false) (let e : suc k + 1 ≡ suc (k + 1) = omega arith in e) (sorted (suc k) d (omega arith) (omega arith))) (IsDistinct-tail (eq_by_cmp name_cmp) x (z ∷ xs) distinct))

-- distinct names rise strictly after they are sorted
pub are_rising-moved : (xs ys : List NodeName) → IsPermutation xs ys → IsSorted name_cmp ys → IsDistinct (eq_by_cmp name_cmp) xs → IsTrue (are_rising ys)
are_rising-moved xs ys moved sorted distinct = are_rising-sorted ys sorted (IsDistinct-IsPermutation (eq_by_cmp name_cmp) (eq_by_cmp_equiv name_cmp_total).symm xs ys moved distinct)
