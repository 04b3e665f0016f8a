-- Names, lists of names, and their order.
use Rattle.std.specs.Prelude.{IsTrue}
use Rattle.std.proofs.Common.{ap₂, nat_cmp, ◌≡◌, true, false, ◌||◌, List, [], ◌∷◌, Contains, refl, sym, subst, true≢false, is_eq, Bool, ap, ◌∙◌, T, Less, map, is_lt, cond, Some, None, is_some}
use Rattle.std.proofs.lemmas.Float.{T_from_true}
use Rattle.std.specs.Cmp.{tied_itself}
use Rattle.std.specs.Cmp.Lexicographic.{slice_cmp}
use Rattle.std.specs.FinMap.{IsAntisymmetric, nat_cmp-IsAntisymmetric, slice_cmp-IsAntisymmetric, is_sorted, find}
use Rattle.std.specs.FinMap.Entries.{below_all, is_sorted-put, find-put, same_entries, is_some-find}
use Rattle.std.specs.Ordering.{eq_by_cmp}
use Rattle.jf_path.specs.Names.{name_cmp, are_rising}
use Rattle.jf_path.specs.declared.name.NodeName.{NodeName}
use Rattle.jf_path.specs.NameLaws.{name_cmp_total}
use Rattle.jf_path.proofs.OrderLaws.{both_equal, Equal-from_is_eq, Less-from_is_lt, is_lt-from_Less}
use Rattle.jf_path.proofs.ListLaws.{Contains-first, Contains-later}
use Rattle.jf_path.proofs.BoolLaws.{both_so, left_so, right_so, left_true, right_true}
use Rattle.jf_standing.specs.Standing.{is_named}
use Rattle.jf_standing.specs.Order.{by_name, bare, in_order}
use Rattle.jf_standing.proofs.Lists.{Contains-cases, none_in_nothing}

-- names tie only if they are equal
pub same_name-exact : IsAntisymmetric name_cmp
same_name-exact a b is =
    let both = both_equal (nat_cmp a.version b.version) (slice_cmp nat_cmp a.path b.path) is in
    ap₂ (λ v p. record { version = v; path = p }) (nat_cmp-IsAntisymmetric a.version b.version both.0) (slice_cmp-IsAntisymmetric nat_cmp-IsAntisymmetric a.path b.path both.1)

-- ---- whether a name is in a list
pub named-tells : (name : NodeName) (names : List NodeName) → is_named name names ≡ true → Contains names name
named-tells name [] is = absurd (true≢false (sym is))
named-tells name (n ∷ names) is =
    elim (is_eq (name_cmp name n)) as (λ b. is_eq (name_cmp name n) ≡ b → (b || is_named name names) ≡ true → Contains (n ∷ names) name) [
      | true ↦ λ tied any. subst (λ m. Contains (n ∷ names) m) (sym (same_name-exact name n (Equal-from_is_eq _ tied))) (Contains-first n names)
      | false ↦ λ other any. Contains-later name n names (named-tells name names any)
    ] refl is

pub named-so : (name : NodeName) (names : List NodeName) → Contains names name → is_named name names ≡ true
named-so name [] has = absurd (none_in_nothing name has)
named-so name (n ∷ names) has = Contains-cases name n names has
    (λ same. ap (λ b. b || is_named name names) (ap (λ m. is_eq (name_cmp name m)) same ∙ ap is_eq (tied_itself name_cmp_total name)))
    (λ later. ap (λ b. is_eq (name_cmp name n) || b) (named-so name names later) ∙ any (is_eq (name_cmp name n)))
  where
    any : (b : Bool) → (b || true) ≡ true
    any true = refl
    any false = refl

-- ---- lists in order
module _ {X : Type 0} where
  below_lower : (k l : NodeName) (es : List (NodeName × X)) → name_cmp k l ≡ Less → T (below_all name_cmp l es) → T (below_all name_cmp k es)
  below_lower k l [] lt h = tt
  below_lower k l (e ∷ es) lt h = both_so _ _ (is_lt-from_Less _ (name_cmp_total.trans k l e.0 lt (Less-from_is_lt _ (left_so _ _ h)))) (below_lower k l es lt (right_so _ _ h))

  -- names that rise are sorted
  pub are_rising-sorted : (es : List (NodeName × X)) → IsTrue (are_rising (map (λ e. e.0) es)) → T (is_sorted name_cmp es)
  are_rising-sorted [] h = tt
  are_rising-sorted (e ∷ []) h = tt
  are_rising-sorted (e ∷ f ∷ es) h =
      let rest = are_rising-sorted (f ∷ es) (right_true (is_lt (name_cmp e.0 f.0)) _ h) in
      let lt = T_from_true _ (left_true (is_lt (name_cmp e.0 f.0)) _ h) in
      both_so _ _ (both_so _ _ lt (below_lower e.0 f.0 es (Less-from_is_lt _ lt) (left_so _ _ rest))) rest

  pub sorted-by_name : (es : List (NodeName × X)) → T (is_sorted name_cmp (by_name es))
  sorted-by_name [] = tt
  sorted-by_name (e ∷ es) = is_sorted-put name_cmp name_cmp_total e.0 e.1 (by_name es) (sorted-by_name es)

  pub find-by_name : (q : NodeName) (es : List (NodeName × X)) → find name_cmp q (by_name es) ≡ find name_cmp q es
  find-by_name q [] = refl
  find-by_name q (e ∷ es) = find-put name_cmp name_cmp_total q e.0 e.1 (by_name es) ∙ ap (λ o. cond (eq_by_cmp name_cmp q e.0) (Some e.1) o) (find-by_name q es)

-- ---- names alone
find-bare : (q : NodeName) (names : List NodeName) → find name_cmp q (bare names) ≡ cond (is_named q names) (Some tt) None
find-bare q [] = refl
find-bare q (n ∷ names) = elim (is_eq (name_cmp q n)) as (λ b. cond b (Some tt) (find name_cmp q (bare names)) ≡ cond (b || is_named q names) (Some tt) None) [ true ↦ refl | false ↦ find-bare q names ]

names-bare : (names : List NodeName) → map (λ (e : NodeName × Unit {0}). e.0) (bare names) ≡ names
names-bare [] = refl
names-bare (n ∷ names) = ap (λ t. n ∷ t) (names-bare names)

-- names that rise are those of a list in order if both have the same names
pub same_names : (xs ys : List NodeName) → IsTrue (are_rising xs) → ((q : NodeName) → is_named q xs ≡ is_named q ys) → xs ≡ in_order ys
same_names xs ys rises same =
    sym (names-bare xs)
    ∙ ap (map (λ (e : NodeName × Unit {0}). e.0)) (same_entries name_cmp name_cmp_total same_name-exact (bare xs) (by_name (bare ys)) (are_rising-sorted (bare xs) (subst (λ ns. IsTrue (are_rising ns)) (sym (names-bare xs)) rises)) (sorted-by_name (bare ys))
    (λ q. find-bare q xs ∙ ap (λ b. cond b (Some tt) None) (same q) ∙ sym (find-bare q ys) ∙ sym (find-by_name q (bare ys))))

-- putting names in order keeps the same names
pub named-in_order : (q : NodeName) (names : List NodeName) → is_named q (in_order names) ≡ is_named q names
named-in_order q names = sym (is_some-find name_cmp q (by_name (bare names))) ∙ ap is_some (find-by_name q (bare names)) ∙ is_some-find name_cmp q (bare names) ∙ ap (is_named q) (names-bare names)
