-- A mark more, a mark fewer and the least one taken, in the group of its version.
use Rattle.std.specs.Prelude.{Bool, not, slice_set, map, ◌||◌}
use Rattle.std.proofs.Common.{◌≡◌, ℕ, zero, suc, ◌<◌, ◌+◌, ◌-◌, List, [], ◌∷◌, ◌++◌, length, get_or, refl, sym, ap, ap₂, ◌∙◌, subst, arith, true, false, inl, inr, Ordering, Less, Equal, Greater, is_eq, nat_cmp, Contains, IsTrue, ◌↔◌, length-append}
use Rattle.std.proofs.lemmas.Bool.{cases_lt}
use Rattle.std.proofs.lemmas.List.{length-map}
use Rattle.std.proofs.lemmas.List.Elements.{All-from_recursion, recursion_from_All, All-nil, filter-append}
use Rattle.std.proofs.lemmas.List.Folds.{list_any-append, list_any_none}
use Rattle.std.proofs.lemmas.Map.Views.{Contains-from_any, list_any-from_Contains}
use Rattle.std.specs.BTreeSet.{insert_key}
use Rattle.std.specs.Cmp.{eq_by_cmp_equiv}
use Rattle.std.specs.List.{All, AllByRecursion, HoldsAt, list_any}
use Rattle.std.specs.List.Sorted.{IsPartitionPoint, IsStrictlySortedBy}
use Rattle.std.specs.Ordering.{eq_by_cmp, match_ordering, ordering_then}
use Rattle.jf_path.specs.declared.name.NodeName.{NodeName}
use Rattle.jf_path.specs.Names.{name_cmp}
use Rattle.jf_path.proofs.FilterLaws.{filter-map, filter-alike}
use Rattle.jf_path.proofs.ListLaws.{All-append, All-weaker}
use Rattle.jf_path.proofs.OrderLaws.{nat_tied, nat_less, nat_greater, Equal-from_is_eq}
use Rattle.jf_stale.specs.Groups.{NameGroup, group_marks, marks_in, with_name, without_name, AreRisingGroups, HoldMarks}
use Rattle.jf_stale.specs.Marks.{Mark, mark_cmp, with_mark, without_mark, AreAscendingMarks}
use Rattle.jf_stale.proofs.GroupLaws.{rising-changed}
use Rattle.jf_stale.proofs.MarkLaws.{mark_cmp_total, mark_cmp-exact}
use Rattle.jf_stale.proofs.Places.{without-apart, without-ascends, insert_key-ascends}

-- ---- what holds of each mark
-- what holds of each mark of a version holds of each mark of a group of it
All-group : (P : Mark → Type 0) (v : ℕ) → ((n : NodeName) → P (v, n)) → (names : List NodeName) → AllByRecursion P (map (λ n. (v, n)) names)
All-group P v h [] = tt
All-group P v h (n ∷ names) = (h n, All-group P v h names)

-- what holds of each mark of the version of each group
All-groups : (P : Mark → Type 0) (Q : ℕ → Type 0) → ((v : ℕ) (n : NodeName) → Q v → P (v, n)) → (gs : List NameGroup) → AllByRecursion (λ g. Q g.0) gs → AllByRecursion P (marks_in gs)
All-groups P Q h [] all = tt
All-groups P Q h (g ∷ gs) all = All-append P (group_marks g) (marks_in gs) (All-group P g.0 (λ n. h g.0 n all.0) g.1) (All-groups P Q h gs all.1)

-- the marks of groups above a version are above it
pub later-marks : (v : ℕ) (gs : List NameGroup) → AllByRecursion (λ g. v < g.0) gs → AllByRecursion (λ (k : Mark). v < k.0) (marks_in gs)
later-marks v gs all = All-groups (λ k. v < k.0) (λ w. v < w) (λ w n lt. lt) gs all

-- the marks of groups of which the first is above a version are above it
pub all-later : (v : ℕ) (gs : List NameGroup) (first : NameGroup) → AreRisingGroups gs → first ≡ get_or gs 0 first → v < first.0 → All (λ (k : Mark). v < k.0) (marks_in gs)
all-later v [] first rising is above = All-nil (λ (k : Mark). v < k.0)
all-later v (g ∷ gs) first rising is above =
    let low : v < g.0 = subst (λ (h : NameGroup). v < h.0) is above in
    All-from_recursion (λ (k : Mark). v < k.0) (marks_in (g ∷ gs)) (later-marks v (g ∷ gs) (low, All-weaker (λ h. g.0 < h.0) (λ h. v < h.0) (λ h lt. omega arith) gs rising.0))

-- ---- a mark more
with-first : (m : Mark) (ms : List Mark) → AllByRecursion (λ k. m.0 < k.0) ms → with_mark m ms ≡ m ∷ ms
with-first m [] above = refl
with-first m (k ∷ ks) above =
    ap (λ o. match_ordering (ordering_then o (name_cmp m.1 k.1)) (m ∷ k ∷ ks) (k ∷ ks) (k ∷ insert_key mark_cmp ks m)) (nat_less m.0 k.0 above.0)

with-later : (m : Mark) (v : ℕ) (names : List NodeName) (ms : List Mark) → v < m.0 → with_mark m (map (λ n. (v, n)) names ++ ms) ≡ map (λ n. (v, n)) names ++ with_mark m ms
with-later m v [] ms above = refl
with-later m v (n ∷ names) ms above =
    let rest = map (λ n. (v, n)) names ++ ms in
    ap (λ o. match_ordering (ordering_then o (name_cmp m.1 n)) (m ∷ (v, n) ∷ rest) ((v, n) ∷ rest) ((v, n) ∷ insert_key mark_cmp rest m)) (nat_greater m.0 v above)
    ∙ ap (λ ks. (v, n) ∷ ks) (with-later m v names ms above)

with-here : (v : ℕ) (name : NodeName) (names : List NodeName) (ms : List Mark) → AllByRecursion (λ (k : Mark). v < k.0) ms → with_mark (v, name) (map (λ n. (v, n)) names ++ ms) ≡ map (λ n. (v, n)) (with_name name names) ++ ms
with-here v name [] ms above = with-first (v, name) ms above
with-here v name (n ∷ names) ms above =
    let rest = map (λ n. (v, n)) names ++ ms in
    ap (λ o. match_ordering (ordering_then o (name_cmp name n)) ((v, name) ∷ (v, n) ∷ rest) ((v, n) ∷ rest) ((v, n) ∷ insert_key mark_cmp rest (v, name))) (nat_tied v)
    ∙ elim (name_cmp name n) as (λ o. match_ordering o ((v, name) ∷ (v, n) ∷ rest) ((v, n) ∷ rest) ((v, n) ∷ insert_key mark_cmp rest (v, name)) ≡ map (λ n. (v, n)) (match_ordering o (name ∷ n ∷ names) (n ∷ names) (n ∷ with_name name names)) ++ ms) [
      | Less ↦ refl
      | Equal ↦ refl
      | Greater ↦ ap (λ ks. (v, n) ∷ ks) (with-here v name names ms above)
    ]

-- the version of an earlier group is below that of a later one
first-below : (g h : NameGroup) (gs : List NameGroup) (i : ℕ) → AllByRecursion (λ k. g.0 < k.0) gs → i < length gs → h ≡ get_or gs i h → g.0 < h.0
first-below g h gs i above lt is = subst (λ (k : NameGroup). g.0 < k.0) (sym is) (All-from_recursion (λ k. g.0 < k.0) gs above i h lt)

-- a mark more is a name more in its group
pub with-group : (name : NodeName) (gs : List NameGroup) (i : ℕ) (g : NameGroup) → AreRisingGroups gs → i < length gs → g ≡ get_or gs i g → with_mark (g.0, name) (marks_in gs) ≡ marks_in (slice_set gs i (g.0, with_name name g.1))
with-group name [] i g rising lt is = absurd (omega arith)
with-group name (h ∷ hs) zero g rising lt is =
    subst (λ (k : NameGroup). with_mark (k.0, name) (marks_in (h ∷ hs)) ≡ marks_in ((k.0, with_name name k.1) ∷ hs)) (sym is) (with-here h.0 name h.1 (marks_in hs) (later-marks h.0 hs rising.0))
with-group name (h ∷ hs) (suc i) g rising lt is =
    with-later (g.0, name) h.0 h.1 (marks_in hs) (first-below h g hs i rising.0 (omega arith) is)
    ∙ ap (λ ms. group_marks h ++ ms) (with-group name hs i g rising.1 (omega arith) is)

-- the version of a group is the one at its place
own_version : (v : ℕ) (gs : List NameGroup) (i : ℕ) (g : NameGroup) → g ≡ get_or gs i g → HoldsAt (λ k. k.0 ≡ v) gs i → g.0 ≡ v
own_version v gs i g is there = ap (λ (k : NameGroup). k.0) is ∙ there g

-- with a name more in the group of a version there is its mark more
pub marked : (v : ℕ) (name : NodeName) (gs : List NameGroup) (i : ℕ) (g h : NameGroup) → AreRisingGroups gs → i < length gs → g ≡ get_or gs i g → HoldsAt (λ k. k.0 ≡ v) gs i → h ≡ (g.0, with_name name g.1) → marks_in (slice_set gs i h) ≡ with_mark (v, name) (marks_in gs)
marked v name gs i g h rising lt is there made =
    ap (λ k. marks_in (slice_set gs i k)) made
    ∙ sym (with-group name gs i g rising lt is)
    ∙ ap (λ w. with_mark (w, name) (marks_in gs)) (own_version v gs i g is there)

-- ---- a mark fewer
apart-then : (r s : Ordering) → is_eq r ≡ false → is_eq (ordering_then r s) ≡ false
apart-then Less s h = refl
apart-then Equal s h = absurd (cc)
apart-then Greater s h = refl

-- a mark is apart from the marks of other versions
pub apart-groups : (m : Mark) (gs : List NameGroup) → AllByRecursion (λ g. is_eq (nat_cmp m.0 g.0) ≡ false) gs → All (λ k. eq_by_cmp mark_cmp m k ≡ false) (marks_in gs)
apart-groups m gs all = All-from_recursion (λ k. eq_by_cmp mark_cmp m k ≡ false) (marks_in gs) (All-groups (λ k. eq_by_cmp mark_cmp m k ≡ false) (λ w. is_eq (nat_cmp m.0 w) ≡ false) (λ w n other. apart-then (nat_cmp m.0 w) (name_cmp m.1 n) other) gs all)

apart-later : (m : Mark) (gs : List NameGroup) → AllByRecursion (λ g. m.0 < g.0) gs → All (λ k. eq_by_cmp mark_cmp m k ≡ false) (marks_in gs)
apart-later m gs above = apart-groups m gs (All-weaker (λ g. m.0 < g.0) (λ g. is_eq (nat_cmp m.0 g.0) ≡ false) (λ g lt. ap is_eq (nat_less m.0 g.0 lt)) gs above)

apart-group : (m : Mark) (g : NameGroup) → g.0 < m.0 → All (λ k. eq_by_cmp mark_cmp m k ≡ false) (group_marks g)
apart-group m g lt = All-from_recursion (λ k. eq_by_cmp mark_cmp m k ≡ false) (group_marks g) (All-group (λ k. eq_by_cmp mark_cmp m k ≡ false) g.0 (λ n. apart-then (nat_cmp m.0 g.0) (name_cmp m.1 n) (ap is_eq (nat_greater m.0 g.0 lt))) g.1)

-- a mark of a version that has no group
pub apart-gap : (m : Mark) (gs : List NameGroup) (i : ℕ) → IsPartitionPoint (λ g. g.0 < m.0) (λ g. m.0 < g.0) gs i → All (λ k. eq_by_cmp mark_cmp m k ≡ false) (marks_in gs)
apart-gap m gs i cut = apart-groups m gs (recursion_from_All (λ g. is_eq (nat_cmp m.0 g.0) ≡ false) gs (λ k d lt. elim (cases_lt k i) [
  | inl before ↦ ap is_eq (nat_greater m.0 (get_or gs k d).0 (cut.0 k d (omega arith) before))
  | inr behind ↦ ap is_eq (nat_less m.0 (get_or gs k d).0 (cut.1 k d behind lt))
]))

same_version : (v : ℕ) (a b : NodeName) → eq_by_cmp mark_cmp (v, a) (v, b) ≡ eq_by_cmp name_cmp a b
same_version v a b = ap (λ o. is_eq (ordering_then o (name_cmp a b))) (nat_tied v)

without-here : (v : ℕ) (name : NodeName) (names : List NodeName) → without_mark (v, name) (map (λ n. (v, n)) names) ≡ map (λ n. (v, n)) (without_name name names)
without-here v name names =
    filter-map (λ k. not (eq_by_cmp mark_cmp (v, name) k)) (λ n. (v, n)) names
    ∙ ap (map (λ n. (v, n))) (filter-alike (λ n. not (eq_by_cmp mark_cmp (v, name) (v, n))) (λ n. not (eq_by_cmp name_cmp name n)) names (λ n. ap not (same_version v name n)))

any-here : (v : ℕ) (name : NodeName) (names : List NodeName) → list_any (eq_by_cmp mark_cmp (v, name)) (map (λ n. (v, n)) names) ≡ list_any (eq_by_cmp name_cmp name) names
any-here v name [] = refl
any-here v name (n ∷ names) = ap₂ (λ a b. a || b) (same_version v name n) (any-here v name names)

or_false : (a : Bool) → (a || false) ≡ a
or_false true = refl
or_false false = refl

-- a mark fewer is a name fewer in its group
pub without-group : (name : NodeName) (gs : List NameGroup) (i : ℕ) (g : NameGroup) → AreRisingGroups gs → i < length gs → g ≡ get_or gs i g → without_mark (g.0, name) (marks_in gs) ≡ marks_in (slice_set gs i (g.0, without_name name g.1))
without-group name [] i g rising lt is = absurd (omega arith)
without-group name (h ∷ hs) zero g rising lt is =
    subst (λ (k : NameGroup). without_mark (k.0, name) (marks_in (h ∷ hs)) ≡ marks_in ((k.0, without_name name k.1) ∷ hs)) (sym is)
    (filter-append (λ k. not (eq_by_cmp mark_cmp (h.0, name) k)) (group_marks h) (marks_in hs)
    ∙ ap₂ (λ a b. a ++ b) (without-here h.0 name h.1) (without-apart mark_cmp_total (h.0, name) (marks_in hs) (apart-later (h.0, name) hs rising.0)))
without-group name (h ∷ hs) (suc i) g rising lt is =
    filter-append (λ k. not (eq_by_cmp mark_cmp (g.0, name) k)) (group_marks h) (marks_in hs)
    ∙ ap₂ (λ a b. a ++ b) (without-apart mark_cmp_total (g.0, name) (group_marks h) (apart-group (g.0, name) h (first-below h g hs i rising.0 (omega arith) is))) (without-group name hs i g rising.1 (omega arith) is)

-- a mark is there if its name is in its group
pub any-group : (name : NodeName) (gs : List NameGroup) (i : ℕ) (g : NameGroup) → AreRisingGroups gs → i < length gs → g ≡ get_or gs i g → list_any (eq_by_cmp mark_cmp (g.0, name)) (marks_in gs) ≡ list_any (eq_by_cmp name_cmp name) g.1
any-group name [] i g rising lt is = absurd (omega arith)
any-group name (h ∷ hs) zero g rising lt is =
    subst (λ (k : NameGroup). list_any (eq_by_cmp mark_cmp (k.0, name)) (marks_in (h ∷ hs)) ≡ list_any (eq_by_cmp name_cmp name) k.1) (sym is)
    (list_any-append (eq_by_cmp mark_cmp (h.0, name)) (group_marks h) (marks_in hs)
    ∙ ap₂ (λ a b. a || b) (any-here h.0 name h.1) (list_any_none (eq_by_cmp mark_cmp (h.0, name)) (marks_in hs) (apart-later (h.0, name) hs rising.0))
    ∙ or_false (list_any (eq_by_cmp name_cmp name) h.1))
any-group name (h ∷ hs) (suc i) g rising lt is =
    list_any-append (eq_by_cmp mark_cmp (g.0, name)) (group_marks h) (marks_in hs)
    ∙ ap₂ (λ a b. a || b) (list_any_none (eq_by_cmp mark_cmp (g.0, name)) (group_marks h) (apart-group (g.0, name) h (first-below h g hs i rising.0 (omega arith) is))) (any-group name hs i g rising.1 (omega arith) is)

-- with a name fewer in the group of a version there is its mark fewer
pub unmarked : (v : ℕ) (name : NodeName) (gs : List NameGroup) (i : ℕ) (g h : NameGroup) → AreRisingGroups gs → i < length gs → g ≡ get_or gs i g → HoldsAt (λ k. k.0 ≡ v) gs i → h ≡ (g.0, without_name name g.1) → marks_in (slice_set gs i h) ≡ without_mark (v, name) (marks_in gs)
unmarked v name gs i g h rising lt is there made =
    ap (λ k. marks_in (slice_set gs i k)) made
    ∙ sym (without-group name gs i g rising lt is)
    ∙ ap (λ w. without_mark (w, name) (marks_in gs)) (own_version v gs i g is there)

-- a test of the group of a version is one of all marks
pub tested : (v : ℕ) (name : NodeName) (gs : List NameGroup) (i : ℕ) (g : NameGroup) (r : Bool) → AreRisingGroups gs → i < length gs → g ≡ get_or gs i g → HoldsAt (λ k. k.0 ≡ v) gs i → r ≡ list_any (eq_by_cmp name_cmp name) g.1 → r ≡ list_any (eq_by_cmp mark_cmp (v, name)) (marks_in gs)
tested v name gs i g r rising lt is there test =
    test
    ∙ sym (any-group name gs i g rising lt is)
    ∙ ap (λ w. list_any (eq_by_cmp mark_cmp (w, name)) (marks_in gs)) (own_version v gs i g is there)

-- a test that finds a mark says that it is there
pub any-tells : (r : Bool) (m : Mark) (ms : List Mark) → r ≡ list_any (eq_by_cmp mark_cmp m) ms → IsTrue r ↔ Contains ms m
any-tells r m ms test = (
  λ is. Contains-from_any {eq = eq_by_cmp mark_cmp} (λ a b same. mark_cmp-exact a b (Equal-from_is_eq (mark_cmp a b) same)) m ms (sym test ∙ is),
  λ has. test ∙ list_any-from_Contains {eq = eq_by_cmp mark_cmp} (eq_by_cmp_equiv mark_cmp_total) m ms has,
)

-- ---- the least mark
-- the first name of the first group makes the least mark
pub taken-first : (gs : List NameGroup) (g h : NameGroup) (name : NodeName) → 0 < length gs → g ≡ get_or gs 0 g → h.0 ≡ g.0 → g.1 ≡ name ∷ h.1 → marks_in gs ≡ (g.0, name) ∷ marks_in (slice_set gs 0 h)
taken-first [] g h name lt is same names = absurd (omega arith)
taken-first (k ∷ ks) g h name lt is same names =
    ap (λ (j : NameGroup). group_marks j ++ marks_in ks) (sym is)
    ∙ ap (λ ns. map (λ n. (g.0, n)) ns ++ marks_in ks) names
    ∙ ap (λ v. (g.0, name) ∷ (map (λ n. (v, n)) h.1 ++ marks_in ks)) (sym same)

-- ---- the number of marks
-- as many marks more as there are names more in a group
pub set-counted : (gs : List NameGroup) (i : ℕ) (g h : NameGroup) → i < length gs → g ≡ get_or gs i g → length (marks_in (slice_set gs i h)) + length g.1 ≡ length (marks_in gs) + length h.1
set-counted [] i g h lt is = absurd (omega arith)
set-counted (k ∷ ks) zero g h lt is =
    let same : length g.1 ≡ length k.1 = ap (λ (j : NameGroup). length j.1) is in
    simp (length-append, length-map) (omega arith)
set-counted (k ∷ ks) (suc i) g h lt is =
    let rest = set-counted ks i g h (omega arith) is in
    simp length-append (omega arith)

-- ---- what groups hold
-- groups with the same marks
pub hold-same : (gs hs : List NameGroup) (n : ℕ) → HoldMarks gs n → AreRisingGroups hs → marks_in hs ≡ marks_in gs → HoldMarks hs n
hold-same gs hs n held rising same = record { rising = rising; ascending = subst AreAscendingMarks (sym same) held.ascending; counted = held.counted ∙ ap length (sym same) }

-- groups with a name more, or with one that is there
pub hold-more : (gs : List NameGroup) (i n m : ℕ) (g h : NameGroup) (name : NodeName) → HoldMarks gs n → i < length gs → g ≡ get_or gs i g → h ≡ (g.0, with_name name g.1) → m + length g.1 ≡ n + length h.1 → HoldMarks (slice_set gs i h) m
hold-more gs i n m g h name held lt is made count =
    let marks : marks_in (slice_set gs i h) ≡ with_mark (g.0, name) (marks_in gs) = ap (λ k. marks_in (slice_set gs i k)) made ∙ sym (with-group name gs i g held.rising lt is) in
    record {
      rising = rising-changed gs i g h held.rising lt is (ap (λ (k : NameGroup). k.0) made);
      ascending = subst AreAscendingMarks (sym marks) (insert_key-ascends mark_cmp_total (g.0, name) (marks_in gs) held.ascending);
      counted = let all = set-counted gs i g h lt is in let was = held.counted in omega arith;
    }

-- groups with a name fewer, or without one that isn't there
pub hold-fewer : (gs : List NameGroup) (i n m : ℕ) (g h : NameGroup) (name : NodeName) → HoldMarks gs n → i < length gs → g ≡ get_or gs i g → h ≡ (g.0, without_name name g.1) → m + length g.1 ≡ n + length h.1 → HoldMarks (slice_set gs i h) m
hold-fewer gs i n m g h name held lt is made count =
    let marks : marks_in (slice_set gs i h) ≡ without_mark (g.0, name) (marks_in gs) = ap (λ k. marks_in (slice_set gs i k)) made ∙ sym (without-group name gs i g held.rising lt is) in
    record {
      rising = rising-changed gs i g h held.rising lt is (ap (λ (k : NameGroup). k.0) made);
      ascending = subst AreAscendingMarks (sym marks) (without-ascends mark_cmp_total (g.0, name) (marks_in gs) held.ascending);
      counted = let all = set-counted gs i g h lt is in let was = held.counted in omega arith;
    }

-- groups with all marks but the first
pub hold-rest : (n : ℕ) (m : Mark) (hs : List NameGroup) → AreRisingGroups hs → n ≡ length (m ∷ marks_in hs) → AreAscendingMarks (m ∷ marks_in hs) → HoldMarks hs (n - 1)
unfolding IsStrictlySortedBy
hold-rest n m hs rising counted ascending = record { rising = rising; ascending = ascending.1; counted = omega arith }

-- the first of ascending marks is below all others
pub least-first : (m : Mark) (ms : List Mark) → AreAscendingMarks (m ∷ ms) → All (λ k. mark_cmp m k ≡ Less) ms
unfolding IsStrictlySortedBy
least-first m ms ascending = All-from_recursion (λ k. mark_cmp m k ≡ Less) ms ascending.0
