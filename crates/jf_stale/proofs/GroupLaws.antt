-- Groups that rise stay so, and hold the same marks, as a group is made, changed or removed.
use borrow.Author.Tests.{eqb-true, eqb-false}
use Rattle.std.proofs.Common.{◌≡◌, ℕ, zero, suc, ◌-◌, ◌<◌, ◌≤◌, List, [], ◌∷◌, ◌++◌, length, get_or, drop, refl, sym, ap, ◌∙◌, subst, arith, inl, inr, eq-or-lt_of_le, Less, Equal, Greater, nat_cmp, true, false}
use Rattle.std.specs.Prelude.{slice_set, ◌==◌, Result, Ok, Err, IfOk, IfErr}
use Rattle.std.proofs.lemmas.Bool.{cases_lt}
use Rattle.std.proofs.lemmas.Bool.Decides.{nat_tests}
use Rattle.std.proofs.lemmas.Cmp.{nat_cmp_total}
use Rattle.std.proofs.lemmas.List.{get_or_default}
use Rattle.std.proofs.lemmas.List.Elements.{All-from_recursion, recursion_from_All, All-set}
use Rattle.std.specs.List.{AllByRecursion, HoldsAt, insert, remove}
use Rattle.std.specs.FinMap as fin
use Rattle.std.specs.List.Sorted.{IsNonDecreasingBy, IsPartitionPoint, IsBinarySearchResult}
use Rattle.std.specs.Ordering.{ordering_index}
use Rattle.jf_path.proofs.OrderLaws.{nat_less}
use Rattle.jf_stale.specs.Groups.{NameGroup, group_marks, marks_in, AreRisingGroups, begins_empty}
use Rattle.jf_stale.proofs.Places.{no_higher, last-there}

-- ---- a search
-- an earlier version is below a later one
pub versions-rise : (gs : List NameGroup) (i j : ℕ) (d : NameGroup) → AreRisingGroups gs → i < j → j < length gs → (get_or gs i d).0 < (get_or gs j d).0
versions-rise [] i j d rising lt within = absurd (omega arith)
versions-rise (g ∷ gs) i zero d rising lt within = absurd (omega arith)
versions-rise (g ∷ gs) zero (suc j) d rising lt within = All-from_recursion (λ h. g.0 < h.0) gs rising.0 j d (omega arith)
versions-rise (g ∷ gs) (suc i) (suc j) d rising lt within = versions-rise gs i j d rising.1 (omega arith) (omega arith)

-- the results of comparing each version with one don't decrease
pub versions-steady : (v : ℕ) (gs : List NameGroup) → AreRisingGroups gs → IsNonDecreasingBy (λ g. ordering_index (nat_cmp g.0 v)) gs
versions-steady v gs rising i j d le within = elim (eq-or-lt_of_le le) [
  | inl here ↦ subst (λ k. ordering_index (nat_cmp (get_or gs i d).0 v) ≤ ordering_index (nat_cmp (get_or gs k d).0 v)) here (omega arith)
  | inr later ↦ no_higher nat_cmp_total (get_or gs i d).0 (get_or gs j d).0 v (nat_less _ _ (versions-rise gs i j d rising later within))
]

-- what the answers of a comparison of numbers say
lt-from_Less : (n m : ℕ) → nat_cmp n m ≡ Less → n < m
lt-from_Less n m is = grind (arith, nat_tests)

lt-from_Greater : (n m : ℕ) → nat_cmp n m ≡ Greater → m < n
lt-from_Greater n m is = grind (arith, nat_tests)

-- a binary search finds the version, or ends at its gap
pub version-found : (v : ℕ) (gs : List NameGroup) (r : Result ℕ ℕ) → IsBinarySearchResult (λ g. nat_cmp g.0 v) gs r → IfOk r (HoldsAt (λ g. g.0 ≡ v) gs)
version-found v gs (Ok i) found = λ d. fin.nat_cmp-IsAntisymmetric (get_or gs i d).0 v (found d)
version-found v gs (Err i) found = tt

pub version-missing : (v : ℕ) (gs : List NameGroup) (r : Result ℕ ℕ) → AreRisingGroups gs → IsBinarySearchResult (λ g. nat_cmp g.0 v) gs r → IfErr r (IsPartitionPoint (λ g. g.0 < v) (λ g. v < g.0) gs)
version-missing v gs (Ok i) rising found = tt
version-missing v gs (Err i) rising found =
    let cut = found (versions-steady v gs rising) in (
      λ k d low lt. lt-from_Less (get_or gs k d).0 v (cut.0 k d low lt),
      λ k d low lt. lt-from_Greater (get_or gs k d).0 v (cut.1 k d low lt),
    )

-- a version above the last has its gap at the end
pub version-above : (v : ℕ) (gs : List NameGroup) (n : ℕ) (last : NameGroup) → AreRisingGroups gs → n ≡ length gs → 0 < n → last ≡ get_or gs (n - 1) last → nat_cmp last.0 v ≡ Less → IsPartitionPoint (λ g. g.0 < v) (λ g. v < g.0) gs n
version-above v gs n last rising all some is less = (
  λ k d low lt.
      let above = lt-from_Less last.0 v less in
      let there : (get_or gs (n - 1) d).0 ≡ last.0 = ap (λ (g : NameGroup). g.0) (get_or_default gs (n - 1) d last (omega arith) ∙ sym is) in
      elim (cases_lt k (n - 1)) [
        | inl earlier ↦ let below = versions-rise gs k (n - 1) d rising earlier (omega arith) in omega arith
        | inr here ↦ let same : (get_or gs k d).0 ≡ (get_or gs (n - 1) d).0 = ap (λ j. (get_or gs j d).0) (let e : k ≡ n - 1 = omega arith in e) in omega arith
      ],
  λ k d low lt. absurd (omega arith),
)

-- the last version
pub version-last : (v : ℕ) (gs : List NameGroup) (n : ℕ) (last : NameGroup) → n ≡ length gs → 0 < n → last ≡ get_or gs (n - 1) last → nat_cmp last.0 v ≡ Equal → HoldsAt (λ g. g.0 ≡ v) gs (n - 1)
version-last v gs n last all some is same d = ap (λ (g : NameGroup). g.0) (last-there gs n last all some is d) ∙ fin.nat_cmp-IsAntisymmetric last.0 v same

-- ---- a group more
All-inserted : (P : NameGroup → Type 0) (gs : List NameGroup) (i : ℕ) (g : NameGroup) → AllByRecursion P gs → P g → AllByRecursion P (insert gs i g)
All-inserted P [] zero g all own = (own, tt)
All-inserted P [] (suc i) g all own = (own, tt)
All-inserted P (h ∷ hs) zero g all own = (own, all)
All-inserted P (h ∷ hs) (suc i) g all own = (all.0, All-inserted P hs i g all.1 own)

rising-inserted : (gs : List NameGroup) (i : ℕ) (g : NameGroup) → AreRisingGroups gs → i ≤ length gs → IsPartitionPoint (λ h. h.0 < g.0) (λ h. g.0 < h.0) gs i → AreRisingGroups (insert gs i g)
rising-inserted [] zero g rising le cut = (tt, tt)
rising-inserted [] (suc i) g rising le cut = absurd (omega arith)
rising-inserted (h ∷ hs) zero g rising le cut = (recursion_from_All (λ k. g.0 < k.0) (h ∷ hs) (λ k d lt. cut.1 k d (omega arith) lt), rising)
rising-inserted (h ∷ hs) (suc i) g rising le cut = (
  All-inserted (λ k. h.0 < k.0) hs i g rising.0 (cut.0 0 h (omega arith) (omega arith)),
  rising-inserted hs i g rising.1 (omega arith) (λ k d low lt. cut.0 (suc k) d (omega arith) (omega arith), λ k d low lt. cut.1 (suc k) d (omega arith) (omega arith)),
)

marks-inserted : (gs : List NameGroup) (i v : ℕ) → marks_in (insert gs i (v, [])) ≡ marks_in gs
marks-inserted [] zero v = refl
marks-inserted [] (suc i) v = refl
marks-inserted (h ∷ hs) zero v = refl
marks-inserted (h ∷ hs) (suc i) v = ap (λ ms. group_marks h ++ ms) (marks-inserted hs i v)

-- groups with one more in the gap of its version rise
pub rising-made : (gs hs : List NameGroup) (i v : ℕ) (g : NameGroup) → g ≡ (v, []) → hs ≡ insert gs i g → AreRisingGroups gs → i ≤ length gs → IsPartitionPoint (λ h. h.0 < v) (λ h. v < h.0) gs i → AreRisingGroups hs
rising-made gs hs i v g empty made rising le cut = subst AreRisingGroups (sym (made ∙ ap (insert gs i) empty)) (rising-inserted gs i (v, []) rising le cut)

-- a group without names adds no mark
pub marks-made : (gs hs : List NameGroup) (i v : ℕ) (g : NameGroup) → g ≡ (v, []) → hs ≡ insert gs i g → marks_in hs ≡ marks_in gs
marks-made gs hs i v g empty made = ap marks_in (made ∙ ap (insert gs i) empty) ∙ marks-inserted gs i v

-- ---- a group fewer
All-removed : (P : NameGroup → Type 0) (gs : List NameGroup) (i : ℕ) → AllByRecursion P gs → AllByRecursion P (remove gs i)
All-removed P [] zero all = tt
All-removed P [] (suc i) all = tt
All-removed P (h ∷ hs) zero all = all.1
All-removed P (h ∷ hs) (suc i) all = (all.0, All-removed P hs i all.1)

pub rising-removed : (gs : List NameGroup) (i : ℕ) → AreRisingGroups gs → AreRisingGroups (remove gs i)
rising-removed [] zero rising = tt
rising-removed [] (suc i) rising = tt
rising-removed (h ∷ hs) zero rising = rising.1
rising-removed (h ∷ hs) (suc i) rising = (All-removed (λ k. h.0 < k.0) hs i rising.0, rising-removed hs i rising.1)

no_marks : (g : NameGroup) → length g.1 ≡ 0 → group_marks g ≡ []
no_marks (v, []) none = refl
no_marks (v, n ∷ ns) none = absurd (omega arith)

-- without a group that has no names there are the same marks
pub marks-removed : (gs : List NameGroup) (i : ℕ) (g : NameGroup) → i < length gs → g ≡ get_or gs i g → length g.1 ≡ 0 → marks_in (remove gs i) ≡ marks_in gs
marks-removed [] i g lt is none = absurd (omega arith)
marks-removed (h ∷ hs) zero g lt is none = sym (ap (λ ms. ms ++ marks_in hs) (no_marks h (ap (λ (k : NameGroup). length k.1) (sym is) ∙ none)))
marks-removed (h ∷ hs) (suc i) g lt is none = ap (λ ms. group_marks h ++ ms) (marks-removed hs i g (omega arith) is none)

-- ---- a group changed
rising-set : (gs : List NameGroup) (i : ℕ) (g : NameGroup) → AreRisingGroups gs → i < length gs → HoldsAt (λ h. h.0 ≡ g.0) gs i → AreRisingGroups (slice_set gs i g)
rising-set [] i g rising lt same = absurd (omega arith)
rising-set (h ∷ hs) zero g rising lt same = (subst (λ v. AllByRecursion (λ k. v < k.0) hs) (same h) rising.0, rising.1)
rising-set (h ∷ hs) (suc i) g rising lt same =
    let above = All-from_recursion (λ k. h.0 < k.0) hs rising.0 in (
      recursion_from_All (λ k. h.0 < k.0) (slice_set hs i g) (All-set (λ k. h.0 < k.0) hs i g (subst (λ v. h.0 < v) (same g) (above i g (omega arith))) above),
      rising-set hs i g rising.1 (omega arith) same,
    )

-- a group is changed, and keeps its version
pub rising-changed : (gs : List NameGroup) (i : ℕ) (g h : NameGroup) → AreRisingGroups gs → i < length gs → g ≡ get_or gs i g → h.0 ≡ g.0 → AreRisingGroups (slice_set gs i h)
rising-changed gs i g h rising lt is same = rising-set gs i h rising lt (λ d. ap (λ (k : NameGroup). k.0) (get_or_default gs i d g lt ∙ sym is) ∙ sym same)

-- ---- groups at the front
-- the groups begin with no names if the first group has none
pub begins-first : (gs : List NameGroup) (g : NameGroup) → 0 < length gs → g ≡ get_or gs 0 g → begins_empty gs ≡ (length g.1 == 0)
begins-first [] g some is = absurd (omega arith)
begins-first (h ∷ hs) g some is = ap (λ (k : NameGroup). length k.1 == 0) (sym is)

-- a first group that the groups don't begin empty with has a name
pub first-named : (gs : List NameGroup) (g : NameGroup) → begins_empty gs ≡ false → 0 < length gs → g ≡ get_or gs 0 g → 0 < length g.1
first-named gs g full some is = let h = eqb-false _ _ (sym (begins-first gs g some is) ∙ full) in omega (arith, h)

pub begins-some : (gs : List NameGroup) → begins_empty gs ≡ true → 0 < length gs
begins-some [] empty = absurd (cc)
begins-some (g ∷ gs) empty = omega arith

pub rest-rising : (gs : List NameGroup) → AreRisingGroups gs → AreRisingGroups (drop 1 gs)
rest-rising [] rising = tt
rest-rising (g ∷ gs) rising = rising.1

-- without the first group, which has no names, there are the same marks
pub rest-marks : (gs : List NameGroup) → begins_empty gs ≡ true → marks_in (drop 1 gs) ≡ marks_in gs
rest-marks [] empty = refl
rest-marks (g ∷ gs) empty = sym (ap (λ ms. ms ++ marks_in gs) (no_marks g (eqb-true _ _ empty)))
