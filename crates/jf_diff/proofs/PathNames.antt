-- Names made of rising paths rise.
use Rattle.std.proofs.Common.{ℕ, ◌≡◌, map, sym, ap₂, ◌∙◌, T, true, ap, Less, is_lt, List, [], ◌∷◌, refl, IsTrue, subst, false, Equal, Greater, Ordering, is_eq, nat_cmp}
use Rattle.std.proofs.lemmas.Cmp.{nat_cmp_total}
use Rattle.std.specs.Cmp.{tied_itself}
use Rattle.std.specs.FinMap.{is_sorted}
use Rattle.std.specs.FinMap as fin
use Rattle.std.specs.FinMap.Entries.{below_all}
use Rattle.std.specs.List.{AllByRecursion, IsDistinct}
use Rattle.std.specs.Ordering.{ordering_then, eq_by_cmp}
use Rattle.jf_path.specs.declared.name.NodeName.{NodeName}
use Rattle.jf_path.specs.Keys.{key_cmp}
use Rattle.jf_path.specs.Names.{name_cmp, are_rising}
use Rattle.jf_path.specs.declared.node.PlainNode.{PlainNode}
use Rattle.jf_hash.specs.Slots.{Part}
use Rattle.jf_hash.proofs.KeyOrder.{below-first, below-rest, sorted-rest, below-later}
use Rattle.jf_model.specs.Nodes.{Path, fresh}
use Rattle.jf_model.specs.Walk.{with_root}
use Rattle.jf_walk.proofs.FreshLaws.{with_root-fresh}
use Rattle.jf_walk.proofs.FreshOrder.{sorted-fresh}
use Rattle.jf_diff.proofs.Names.{both_true}

abbrev pub name_of_path : ℕ → Path → NodeName
name_of_path version path = record { version = version; path = path }

-- the walk over sorted entries lists the fresh nodes of their maps
pub with_root-sorted : {X : Type 0} (old new : Part) (f : Path → X) → T (is_sorted key_cmp old) → T (is_sorted key_cmp new) → with_root old new f ≡ map (λ (x : Path × Part). f x.0) (fresh (fin.from_sorted old) (fin.from_sorted new))
with_root-sorted old new f a b =
    ap₂ (λ p q. with_root p q f) (sym (fin.entries-from_sorted key_cmp old a)) (sym (fin.entries-from_sorted key_cmp new b)) ∙ with_root-fresh (fin.from_sorted old) (fin.from_sorted new) f

-- ---- names of one version rise as their paths do
less_names : (version : ℕ) (p q : Path) → key_cmp p q ≡ Less → is_lt (name_cmp (name_of_path version p) (name_of_path version q)) ≡ true
less_names version p q lt = ap (λ r. is_lt (ordering_then r (key_cmp p q))) (tied_itself nat_cmp_total version) ∙ ap is_lt lt

-- the names of nodes of one version at rising paths rise strictly
pub rise_paths : (version : ℕ) (f : Path × Part → NodeName × PlainNode) → ((x : Path × Part) → (f x).0 ≡ name_of_path version x.0) → (xs : List (Path × Part)) → T (is_sorted key_cmp xs) → IsTrue (are_rising (map (λ (e : NodeName × PlainNode). e.0) (map f xs)))
rise_paths version f same [] sorted = refl
rise_paths version f same (x ∷ []) sorted = refl
rise_paths version f same (x ∷ y ∷ xs) sorted =
    both_true _ _
    (ap₂ (λ a b. is_lt (name_cmp a b)) (same x) (same y) ∙ less_names version x.0 y.0 (below-first x.0 y xs (below-rest x (y ∷ xs) sorted)))
    (rise_paths version f same (y ∷ xs) (sorted-rest x (y ∷ xs) sorted))

-- ---- names of different paths differ
then_less : (o : Ordering) → is_eq (ordering_then o Less) ≡ false
then_less Less = refl
then_less Equal = refl
then_less Greater = refl

other_names : (v w : ℕ) (p q : Path) → key_cmp p q ≡ Less → eq_by_cmp name_cmp (name_of_path v p) (name_of_path w q) ≡ false
other_names v w p q lt = ap (λ r. is_eq (ordering_then (nat_cmp v w) r)) lt ∙ then_less (nat_cmp v w)

others : (v : Path → ℕ) (w : ℕ) (p : Path) (xs : List (Path × Part)) → T (below_all key_cmp p xs) → AllByRecursion (λ y. eq_by_cmp name_cmp (name_of_path w p) y ≡ false) (map (λ (x : Path × Part). name_of_path (v x.0) x.0) xs)
others v w p [] below = tt
others v w p (x ∷ xs) below = (other_names w (v x.0) p x.0 (below-first p x xs below), others v w p xs (below-later p x xs below))

distinct_paths : (v : Path → ℕ) (xs : List (Path × Part)) → T (is_sorted key_cmp xs) → IsDistinct (eq_by_cmp name_cmp) (map (λ (x : Path × Part). name_of_path (v x.0) x.0) xs)
unfolding IsDistinct
distinct_paths v [] sorted = tt
distinct_paths v (x ∷ xs) sorted = (others v (v x.0) x.0 xs (below-rest x xs sorted), distinct_paths v xs (sorted-rest x xs sorted))

-- the names of the nodes listed from the top are distinct
pub distinct_walk : (v : Path → ℕ) (old new : Part) (names : List NodeName) → names ≡ with_root old new (λ p. name_of_path (v p) p) → T (is_sorted key_cmp old) → T (is_sorted key_cmp new) → IsDistinct (eq_by_cmp name_cmp) names
distinct_walk v old new names is a b =
    subst (IsDistinct (eq_by_cmp name_cmp)) (sym (is ∙ with_root-sorted old new (λ p. name_of_path (v p) p) a b)) (distinct_paths v (fresh (fin.from_sorted old) (fin.from_sorted new)) (sorted-fresh (fin.from_sorted old) (fin.from_sorted new)))
