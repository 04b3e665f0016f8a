-- Places in ascending lists: where an element stands or would stand, and the list with it and without it.
use Rattle.std.specs.Prelude.{cond, filter, not, Result, Ok, Err, IfErr}
use Rattle.std.proofs.Common.{◌≡◌, ℕ, zero, suc, ◌-◌, ◌<◌, ◌≤◌, List, [], ◌∷◌, length, get_or, refl, sym, ap, ◌∙◌, subst, arith, true, false, inl, inr, eq-or-lt_of_le, Ordering, Less, Equal, Greater, is_eq}
use Rattle.std.proofs.lemmas.Bool.{cases_lt}
use Rattle.std.proofs.lemmas.List.{get_or_default}
use Rattle.std.proofs.lemmas.List.Elements.{All-from_recursion, recursion_from_All}
use Rattle.std.proofs.lemmas.List.Folds.{list_any_at, list_any_none}
use Rattle.std.proofs.lemmas.List.Kept.{IsStrictlySortedBy-filter}
use Rattle.std.proofs.lemmas.Map.Keys.{Less-from_sorted}
use Rattle.std.proofs.lemmas.Map.Views.{All-insert_key}
use Rattle.std.specs.BTreeSet.{insert_key}
use Rattle.std.specs.Cmp.{IsTotalOrder, tied_itself, alike_right}
use Rattle.std.specs.List.{All, AllByRecursion, HoldsAt, insert, list_any, remove}
use Rattle.std.specs.List.Sorted.{IsStrictlySortedBy, IsNonDecreasingBy, IsPartitionPoint, IsBinarySearchResult}
use Rattle.std.specs.Ordering.{eq_by_cmp, match_ordering, ordering_index, ordering_reverse}
use Rattle.jf_path.proofs.FilterLaws.{filter_all}
use Rattle.jf_path.proofs.ListLaws.{All-weaker}
use Rattle.jf_path.proofs.OrderLaws.{ordering_index-most}

module _ {K : Type 0} {cmp : K → K → Ordering} (total : IsTotalOrder cmp) where
  pub turned-less : (x y : K) → cmp y x ≡ Less → cmp x y ≡ Greater
  turned-less x y is = total.antisymm x y ∙ ap ordering_reverse is

  pub turned-greater : (x y : K) → cmp y x ≡ Greater → cmp x y ≡ Less
  turned-greater x y is = total.antisymm x y ∙ ap ordering_reverse is

  -- ---- a search
  -- the lesser of two elements compares no higher
  pub no_higher : (a b x : K) → cmp a b ≡ Less → ordering_index (cmp a x) ≤ ordering_index (cmp b x)
  no_higher a b x lt =
      elim (cmp b x) as (λ r. cmp b x ≡ r → ordering_index (cmp a x) ≤ ordering_index r) [
        | Less ↦ λ is. subst (λ r. ordering_index r ≤ 0) (sym (total.trans a b x lt is)) (omega arith)
        | Equal ↦ λ is. subst (λ r. ordering_index r ≤ 1) (sym (sym (alike_right total b x a is) ∙ lt)) (omega arith)
        | Greater ↦ λ is. ordering_index-most (cmp a x)
      ] refl

  -- the results of comparing each element with one don't decrease
  pub steady : (x : K) (xs : List K) → IsStrictlySortedBy cmp xs → IsNonDecreasingBy (λ y. ordering_index (cmp y x)) xs
  steady x xs sorted i j d le within = elim (eq-or-lt_of_le le) [
    | inl here ↦ subst (λ k. ordering_index (cmp (get_or xs i d) x) ≤ ordering_index (cmp (get_or xs k d) x)) here (omega arith)
    | inr later ↦ no_higher (get_or xs i d) (get_or xs j d) x (Less-from_sorted cmp xs i j d sorted later within)
  ]

  -- a binary search that finds nothing ends at the gap
  pub searched : (x : K) (xs : List K) (r : Result ℕ ℕ) → IsStrictlySortedBy cmp xs → IsBinarySearchResult (λ y. cmp y x) xs r → IfErr r (IsPartitionPoint (λ y. cmp y x ≡ Less) (λ y. cmp y x ≡ Greater) xs)
  searched x xs (Ok i) sorted found = tt
  searched x xs (Err i) sorted found = found (steady x xs sorted)

  -- an element above the last has its gap at the end
  pub gap-end : (x : K) (xs : List K) (n : ℕ) (last : K) → IsStrictlySortedBy cmp xs → n ≡ length xs → 0 < n → last ≡ get_or xs (n - 1) last → cmp last x ≡ Less → IsPartitionPoint (λ y. cmp y x ≡ Less) (λ y. cmp y x ≡ Greater) xs n
  gap-end x xs n last sorted all some is above = (
    λ k d low lt.
        let there : get_or xs (n - 1) d ≡ last = get_or_default xs (n - 1) d last (omega arith) ∙ sym is in
        elim (cases_lt k (n - 1)) [
          | inl earlier ↦ total.trans (get_or xs k d) last x (subst (λ y. cmp (get_or xs k d) y ≡ Less) there (Less-from_sorted cmp xs k (n - 1) d sorted earlier (omega arith))) above
          | inr here ↦ let same : k ≡ n - 1 = omega arith in subst (λ y. cmp y x ≡ Less) (sym (ap (λ j. get_or xs j d) same ∙ there)) above
        ],
    λ k d low lt. absurd (omega arith),
  )

  -- ---- one element more
  pub insert-gap : (x : K) (xs : List K) (i : ℕ) → i ≤ length xs → IsPartitionPoint (λ y. cmp y x ≡ Less) (λ y. cmp y x ≡ Greater) xs i → insert_key cmp xs x ≡ insert xs i x
  insert-gap x [] zero le cut = refl
  insert-gap x [] (suc i) le cut = absurd (omega arith)
  insert-gap x (y ∷ ys) zero le cut =
      ap (λ o. match_ordering o (x ∷ y ∷ ys) (y ∷ ys) (y ∷ insert_key cmp ys x)) (turned-greater x y (cut.1 0 y (omega arith) (omega arith)))
  insert-gap x (y ∷ ys) (suc i) le cut =
      ap (λ o. match_ordering o (x ∷ y ∷ ys) (y ∷ ys) (y ∷ insert_key cmp ys x)) (turned-less x y (cut.0 0 y (omega arith) (omega arith)))
      ∙ ap (λ zs. y ∷ zs) (insert-gap x ys i (omega arith) (λ k d low lt. cut.0 (suc k) d (omega arith) (omega arith), λ k d low lt. cut.1 (suc k) d (omega arith) (omega arith)))

  below-there : (x y : K) (ys : List K) (i : ℕ) → AllByRecursion (λ z. cmp y z ≡ Less) ys → i < length ys → get_or ys i x ≡ x → cmp y x ≡ Less
  below-there x y ys i below lt is = subst (λ z. cmp y z ≡ Less) is (All-from_recursion (λ z. cmp y z ≡ Less) ys below i x lt)

  -- an element that is there is not added
  pub insert-there : (x : K) (xs : List K) (i : ℕ) → IsStrictlySortedBy cmp xs → i < length xs → get_or xs i x ≡ x → insert_key cmp xs x ≡ xs
  unfolding IsStrictlySortedBy
  insert-there x [] i sorted lt is = absurd (omega arith)
  insert-there x (y ∷ ys) zero sorted lt is =
      ap (λ o. match_ordering o (x ∷ y ∷ ys) (y ∷ ys) (y ∷ insert_key cmp ys x)) (ap (cmp x) is ∙ tied_itself total x)
  insert-there x (y ∷ ys) (suc i) sorted lt is =
      ap (λ o. match_ordering o (x ∷ y ∷ ys) (y ∷ ys) (y ∷ insert_key cmp ys x)) (turned-less x y (below-there x y ys i sorted.0 (omega arith) is))
      ∙ ap (λ zs. y ∷ zs) (insert-there x ys i sorted.1 (omega arith) is)

  pub insert_key-ascends : (x : K) (xs : List K) → IsStrictlySortedBy cmp xs → IsStrictlySortedBy cmp (insert_key cmp xs x)
  unfolding IsStrictlySortedBy
  insert_key-ascends x [] sorted = (tt, tt)
  insert_key-ascends x (y ∷ ys) sorted =
      elim (cmp x y) as (λ o. cmp x y ≡ o → IsStrictlySortedBy cmp (match_ordering o (x ∷ y ∷ ys) (y ∷ ys) (y ∷ insert_key cmp ys x))) [
        | Less ↦ λ is. ((is, All-weaker (λ z. cmp y z ≡ Less) (λ z. cmp x z ≡ Less) (λ z less. total.trans x y z is less) ys sorted.0), sorted)
        | Equal ↦ λ is. sorted
        | Greater ↦ λ is.
            let above = All-from_recursion (λ z. cmp y z ≡ Less) ys sorted.0 in
            (recursion_from_All (λ z. cmp y z ≡ Less) (insert_key cmp ys x) (All-insert_key cmp x (λ z. cmp y z ≡ Less) ys above (turned-greater y x is)), insert_key-ascends x ys sorted.1)
      ] refl

  -- ---- one element fewer
  -- a list without an element that is apart from all
  pub without-apart : (x : K) (xs : List K) → All (λ y. eq_by_cmp cmp x y ≡ false) xs → filter (λ y. not (eq_by_cmp cmp x y)) xs ≡ xs
  without-apart x xs apart = filter_all (λ y. not (eq_by_cmp cmp x y)) xs (λ k d lt. ap not (apart k d lt))

  -- an element that has a gap is apart from all
  pub apart-gap : (x : K) (xs : List K) (i : ℕ) → IsPartitionPoint (λ y. cmp y x ≡ Less) (λ y. cmp y x ≡ Greater) xs i → All (λ y. eq_by_cmp cmp x y ≡ false) xs
  apart-gap x xs i cut k d lt = elim (cases_lt k i) [
    | inl before ↦ ap is_eq (turned-less x (get_or xs k d) (cut.0 k d (omega arith) before))
    | inr behind ↦ ap is_eq (turned-greater x (get_or xs k d) (cut.1 k d behind lt))
  ]

  pub without-there : (x : K) (xs : List K) (i : ℕ) → IsStrictlySortedBy cmp xs → i < length xs → get_or xs i x ≡ x → filter (λ y. not (eq_by_cmp cmp x y)) xs ≡ remove xs i
  unfolding IsStrictlySortedBy
  without-there x [] i sorted lt is = absurd (omega arith)
  without-there x (y ∷ ys) zero sorted lt is =
      let above = All-from_recursion (λ z. cmp y z ≡ Less) ys sorted.0 in
      ap (λ o. cond (not (is_eq o)) (y ∷ filter (λ z. not (eq_by_cmp cmp x z)) ys) (filter (λ z. not (eq_by_cmp cmp x z)) ys)) (ap (cmp x) is ∙ tied_itself total x)
      ∙ without-apart x ys (λ k d lt'. ap is_eq (ap (λ z. cmp z (get_or ys k d)) (sym is) ∙ above k d lt'))
  without-there x (y ∷ ys) (suc i) sorted lt is =
      ap (λ o. cond (not (is_eq o)) (y ∷ filter (λ z. not (eq_by_cmp cmp x z)) ys) (filter (λ z. not (eq_by_cmp cmp x z)) ys)) (turned-less x y (below-there x y ys i sorted.0 (omega arith) is))
      ∙ ap (λ zs. y ∷ zs) (without-there x ys i sorted.1 (omega arith) is)

  pub without-ascends : (x : K) (xs : List K) → IsStrictlySortedBy cmp xs → IsStrictlySortedBy cmp (filter (λ y. not (eq_by_cmp cmp x y)) xs)
  without-ascends x xs sorted = IsStrictlySortedBy-filter cmp (λ y. not (eq_by_cmp cmp x y)) xs sorted

  -- ---- a test
  pub any-there : (x : K) (xs : List K) (i : ℕ) → i < length xs → HoldsAt (λ y. y ≡ x) xs i → list_any (eq_by_cmp cmp x) xs ≡ true
  any-there x xs i lt is = list_any_at (eq_by_cmp cmp x) xs i x lt (ap (eq_by_cmp cmp x) (is x) ∙ ap is_eq (tied_itself total x))

  pub any-gap : (x : K) (xs : List K) (i : ℕ) → IsPartitionPoint (λ y. cmp y x ≡ Less) (λ y. cmp y x ≡ Greater) xs i → list_any (eq_by_cmp cmp x) xs ≡ false
  any-gap x xs i cut = list_any_none (eq_by_cmp cmp x) xs (apart-gap x xs i cut)

-- the last element stands at the end
pub last-there : {K : Type 0} (xs : List K) (n : ℕ) (last : K) → n ≡ length xs → 0 < n → last ≡ get_or xs (n - 1) last → HoldsAt (λ y. y ≡ last) xs (n - 1)
last-there xs n last all some is d = get_or_default xs (n - 1) d last (omega arith) ∙ sym is
