-- The order of keys, and lists of entries whose keys rise strictly.
use Rattle.std.proofs.Common.{◌≡◌, ℕ, List, ap, ◌∙◌, Ordering, ◌∷◌, T, Less, zero, suc, ◌<◌, [], length, get_or, arith, ◌≤◌, sym, subst, Equal, Greater, refl}
use Rattle.std.specs.Cmp.Lexicographic.{nat_list_cmp_total}
use Rattle.std.specs.FinMap.{is_sorted}
use Rattle.std.specs.FinMap as fin
use Rattle.std.specs.FinMap.Entries.{below_all}
use Rattle.std.specs.Ordering.{ordering_reverse, ordering_index}
use Rattle.jf_path.specs.Keys.{key_cmp}
use Rattle.jf_path.proofs.BoolLaws.{left_so, right_so, both_so}
use Rattle.jf_path.proofs.OrderLaws.{Less-from_is_lt, is_lt-from_Less, ordering_index-most}

-- only equal keys tie
pub same_key-exact : fin.IsAntisymmetric key_cmp
same_key-exact = fin.slice_cmp-IsAntisymmetric fin.nat_cmp-IsAntisymmetric

-- two keys compared the other way round
pub key_cmp-turned : (a b : List ℕ) (o : Ordering) → key_cmp a b ≡ o → key_cmp b a ≡ ordering_reverse o
key_cmp-turned a b o is = nat_list_cmp_total.antisymm b a ∙ ap ordering_reverse is

module _ {X : Type 0} where
  -- the first key is below all that follow
  pub below-rest : (e : List ℕ × X) (es : List (List ℕ × X)) → T (is_sorted key_cmp (e ∷ es)) → T (below_all key_cmp e.0 es)
  below-rest e es sorted = left_so _ _ sorted

  -- the keys that follow the first rise strictly
  pub sorted-rest : (e : List ℕ × X) (es : List (List ℕ × X)) → T (is_sorted key_cmp (e ∷ es)) → T (is_sorted key_cmp es)
  sorted-rest e es sorted = right_so _ _ sorted

  -- a key below all keys is below the first
  pub below-first : (k : List ℕ) (e : List ℕ × X) (es : List (List ℕ × X)) → T (below_all key_cmp k (e ∷ es)) → key_cmp k e.0 ≡ Less
  below-first k e es below = Less-from_is_lt _ (left_so _ _ below)

  pub below-later : (k : List ℕ) (e : List ℕ × X) (es : List (List ℕ × X)) → T (below_all key_cmp k (e ∷ es)) → T (below_all key_cmp k es)
  below-later k e es below = right_so _ _ below

  -- a key below all keys is below each of them
  pub below-each : (k : List ℕ) (es : List (List ℕ × X)) (i : ℕ) (d : List ℕ × X) → T (below_all key_cmp k es) → i < length es → key_cmp k (get_or es i d).0 ≡ Less
  below-each k [] i d below lt = absurd (omega arith)
  below-each k (e ∷ es) zero d below lt = below-first k e es below
  below-each k (e ∷ es) (suc i) d below lt = below-each k es i d (below-later k e es below) (omega arith)

  -- the earlier of two entries has the lesser key
  pub sorted-rises : (es : List (List ℕ × X)) (i j : ℕ) (d : List ℕ × X) → T (is_sorted key_cmp es) → i < j → j < length es → key_cmp (get_or es i d).0 (get_or es j d).0 ≡ Less
  sorted-rises [] i j d sorted lt within = absurd (omega arith)
  sorted-rises (e ∷ es) i zero d sorted lt within = absurd (omega arith)
  sorted-rises (e ∷ es) zero (suc j) d sorted lt within = below-each e.0 es j d (below-rest e es sorted) (omega arith)
  sorted-rises (e ∷ es) (suc i) (suc j) d sorted lt within = sorted-rises es i j d (sorted-rest e es sorted) (omega arith) (omega arith)

pub below_all-further : {X : Type 0} (a b : List ℕ) (bs : List (List ℕ × X)) → key_cmp a b ≡ Less → T (below_all key_cmp b bs) → T (below_all key_cmp a bs)
below_all-further a b [] lt h = tt
below_all-further a b (c ∷ bs) lt h = both_so _ _ (is_lt-from_Less _ (nat_list_cmp_total.trans a b c.0 lt (below-first b c bs h))) (below_all-further a b bs lt (below-later b c bs h))

-- a lesser key compares no higher
pub no_higher : (a b k : List ℕ) → key_cmp a b ≡ Less → ordering_index (key_cmp a k) ≤ ordering_index (key_cmp b k)
no_higher a b k lt =
    elim (key_cmp b k) as (λ r. key_cmp b k ≡ r → ordering_index (key_cmp a k) ≤ ordering_index r) [
      | Less ↦ λ is. subst (λ r. ordering_index r ≤ 0) (sym (nat_list_cmp_total.trans a b k lt is)) (omega arith)
      | Equal ↦ λ is. subst (λ r. ordering_index r ≤ 1) (sym (subst (λ q. key_cmp a q ≡ Less) (same_key-exact b k is) lt)) (omega arith)
      | Greater ↦ λ is. ordering_index-most (key_cmp a k)
    ] refl
