-- A binary search of a batch ends at the place of the key, or at its gap.
use Rattle.std.specs.Prelude.{slice_get}
use Rattle.std.proofs.Common.{◌≡◌, ℕ, ◌-◌, ◌<◌, ◌≤◌, List, length, get_or, subst, sym, arith, T, true, is_lt, Less, Some, Option, eq-or-lt_of_le, inl, inr, Result, Ok, Err, IfOk, IfErr}
use Rattle.std.proofs.lemmas.Bool.{cases_lt}
use Rattle.std.proofs.lemmas.Option.{get_or_from_slice_get}
use Rattle.std.specs.Cmp.Lexicographic.{nat_list_cmp_total}
use Rattle.std.specs.FinMap.{is_sorted}
use Rattle.std.specs.List.Sorted.{IsSearchInRange, IsBinarySearchResult}
use Rattle.std.specs.Ordering.{ordering_index}
use Rattle.jf_path.specs.Keys.{key_cmp}
use Rattle.jf_path.proofs.OrderLaws.{Less-from_is_lt}
use Rattle.jf_hash.specs.Maps.{Batch}
use Rattle.jf_hash.proofs.KeyOrder.{sorted-rises, no_higher, same_key-exact}
use Rattle.jf_split.specs.Places.{IsPlaceOf, IsGapFor}

no_fall : (k : List ℕ) (b : Batch) (i j : ℕ) (d : List ℕ × Option (List ℕ)) → T (is_sorted key_cmp b) → i ≤ j → j < length b → ordering_index (key_cmp (get_or b i d).0 k) ≤ ordering_index (key_cmp (get_or b j d).0 k)
no_fall k b i j d sorted le within = elim (eq-or-lt_of_le le) [
  | inl here ↦ subst (λ m. ordering_index (key_cmp (get_or b i d).0 k) ≤ ordering_index (key_cmp (get_or b m d).0 k)) here (omega arith)
  | inr later ↦ no_higher (get_or b i d).0 (get_or b j d).0 k (sorted-rises b i j d sorted later within)
]

pub searched : (k : List ℕ) (b : Batch) → T (is_sorted key_cmp b) → (r : Result ℕ ℕ) → IsSearchInRange r (length b) → IsBinarySearchResult (λ e. key_cmp e.0 k) b r → record { found : IfOk r (IsPlaceOf k b); absent : IfErr r (IsGapFor k b) }
searched k b sorted (Ok at) within is = record { found = record { within = within; same = λ d. same_key-exact _ k (is d) }; absent = tt }
searched k b sorted (Err at) within parted =
    let apart = parted (λ i j d le lt. no_fall k b i j d sorted le lt) in
    record { found = tt; absent = record { within = within; before = λ i d lt. apart.0 i d (omega arith) lt; behind = λ i d le lt. apart.1 i d le lt } }

-- a key above the last of the keys, which rise, has its gap at the end
pub gap-end : (k : List ℕ) (b : Batch) (e : List ℕ × Option (List ℕ)) → T (is_sorted key_cmp b) → slice_get b (length b - 1) ≡ Some e → is_lt (key_cmp e.0 k) ≡ true → IsGapFor k b (length b)
gap-end k b e sorted last above = record {
  within = omega arith;
  before = λ i d lt.
      let least = Less-from_is_lt (key_cmp e.0 k) (subst T (sym above) tt) in
      let is : get_or b (length b - 1) d ≡ e = get_or_from_slice_get b (length b - 1) e d last in
      elim (cases_lt i (length b - 1)) [
        | inl earlier ↦ nat_list_cmp_total.trans (get_or b i d).0 e.0 k (subst (λ (f : List ℕ × Option (List ℕ)). key_cmp (get_or b i d).0 f.0 ≡ Less) is (sorted-rises b i (length b - 1) d sorted earlier (omega arith))) least
        | inr here ↦ let same : length b - 1 ≡ i = omega arith in subst (λ j. key_cmp (get_or b j d).0 k ≡ Less) same (subst (λ (f : List ℕ × Option (List ℕ)). key_cmp f.0 k ≡ Less) (sym is) least)
      ];
  behind = λ i d le lt. absurd (omega arith);
}
