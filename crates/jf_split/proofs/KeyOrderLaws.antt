-- Entries in the order of their keys: how they change with one entry, how many they are, and that sorting gives them.
use Rattle.std.proofs.Common.{◌≡◌, ◌||◌, ℕ, suc, ◌+◌, List, [], ◌∷◌, map, length, get_or, Option, None, Some, false, T, cond, Ordering, Less, Equal, Greater, is_eq, is_lt, is_some, refl, sym, ap, ◌∙◌, subst, arith, true≢false}
use Rattle.std.proofs.lemmas.List.Sorted.{IsPermutation-sym, IsPermutation-map, Contains-permutation}
use Rattle.std.proofs.lemmas.Map.Entries.{place_from_lookup, lookup_from_place}
use Rattle.std.proofs.lemmas.Map.Keys.{IsDistinct-head, IsDistinct-tail, IsDistinct-IsPermutation}
use Rattle.std.proofs.lemmas.Option.{slice_get_within, get_or_from_slice_get, slice_get_read}
use Rattle.std.specs.Cmp.{IsEquivalence, eq_by_cmp_equiv}
use Rattle.std.specs.Cmp.Lexicographic.{nat_list_cmp_total}
use Rattle.std.specs.FinMap.{put, find, is_sorted}
use Rattle.std.specs.FinMap.Entries.{is_sorted-put, find-put, length-put, is_some-find, same_entries}
use Rattle.std.specs.List.{AllByRecursion, IsDistinct, list_any}
use Rattle.std.specs.List.Sorted.{IsPermutation, IsSortedBy}
use Rattle.std.specs.Map.{lookup}
use Rattle.jf_path.specs.Keys.{key_cmp}
use Rattle.jf_path.proofs.BoolLaws.{both_so}
use Rattle.jf_path.proofs.OrderLaws.{is_lt-from_Less, Equal-from_is_eq}
use Rattle.jf_hash.specs.Maps.{same_key}
use Rattle.jf_hash.proofs.KeyOrder.{same_key-exact, key_cmp-turned, below-rest, below_all-further}
use Rattle.jf_split.specs.KeyOrder.{in_key_order}

-- equality of keys is an equivalence
pub same_key-IsEquivalence : IsEquivalence same_key
same_key-IsEquivalence = eq_by_cmp_equiv nat_list_cmp_total

-- a key that isn't above another one and isn't equal to it is below it
below : (a b : List ℕ) (o : Ordering) → key_cmp a b ≡ o → is_lt (key_cmp b a) ≡ false → same_key a b ≡ false → key_cmp a b ≡ Less
below a b Less is no_fall apart = is
below a b Equal is no_fall apart = absurd (true≢false (sym (ap is_eq is) ∙ apart))
below a b Greater is no_fall apart = absurd (true≢false (sym (ap is_lt (key_cmp-turned a b Greater is)) ∙ no_fall))

not_among : (k : List ℕ) (ks : List (List ℕ)) → AllByRecursion (λ y. same_key k y ≡ false) ks → list_any (same_key k) ks ≡ false
not_among k [] apart = refl
not_among k (x ∷ xs) apart = subst (λ b. (b || list_any (same_key k) xs) ≡ false) (sym apart.0) (not_among k xs apart.1)

same_found : {X : Type 0} (a b : Option X) → ((v : X) → a ≡ Some v → b ≡ Some v) → ((v : X) → b ≡ Some v → a ≡ Some v) → a ≡ b
same_found None None there back = refl
same_found None (Some v) there back = back v refl
same_found (Some v) b there back = sym (there v refl)

module _ {X : Type 0} where
  -- a search for the key is std's look-up
  pub lookup-same_key : (q : List ℕ) (es : List (List ℕ × X)) → lookup (same_key q) es ≡ find key_cmp q es
  lookup-same_key q [] = refl
  lookup-same_key q (e ∷ es) = ap (λ o. cond (same_key q e.0) (Some e.1) o) (lookup-same_key q es)

  pub sorted-in_key_order : (es : List (List ℕ × X)) → T (is_sorted key_cmp (in_key_order es))
  sorted-in_key_order [] = tt
  sorted-in_key_order (e ∷ es) = is_sorted-put key_cmp nat_list_cmp_total e.0 e.1 (in_key_order es) (sorted-in_key_order es)

  pub find-in_key_order : (q : List ℕ) (es : List (List ℕ × X)) → find key_cmp q (in_key_order es) ≡ find key_cmp q es
  find-in_key_order q [] = refl
  find-in_key_order q (e ∷ es) = find-put key_cmp nat_list_cmp_total q e.0 e.1 (in_key_order es) ∙ ap (λ o. cond (same_key q e.0) (Some e.1) o) (find-in_key_order q es)

  -- entries with which each key is found as before, but for one that has a new value
  pub in_key_order-updated : (k : List ℕ) (v : X) (es fs : List (List ℕ × X)) → ((q : List ℕ) → lookup (same_key q) fs ≡ cond (same_key k q) (Some v) (lookup (same_key q) es)) → in_key_order fs ≡ put key_cmp k v (in_key_order es)
  in_key_order-updated k v es fs updated =
      same_entries key_cmp nat_list_cmp_total same_key-exact (in_key_order fs) (put key_cmp k v (in_key_order es)) (sorted-in_key_order fs)
      (is_sorted-put key_cmp nat_list_cmp_total k v (in_key_order es) (sorted-in_key_order es)) (λ q.
      find-in_key_order q fs
      ∙ sym (lookup-same_key q fs)
      ∙ updated q
      ∙ ap (λ b. cond b (Some v) (lookup (same_key q) es)) (same_key-IsEquivalence.symm k q)
      ∙ ap (λ o. cond (same_key q k) (Some v) o) (lookup-same_key q es ∙ sym (find-in_key_order q es))
      ∙ sym (find-put key_cmp nat_list_cmp_total q k v (in_key_order es)))

  -- of different keys none is lost
  pub length-in_key_order : (es : List (List ℕ × X)) → IsDistinct same_key (map (λ e. e.0) es) → length (in_key_order es) ≡ length es
  length-in_key_order [] distinct = refl
  length-in_key_order (e ∷ es) distinct =
      let new : is_some (find key_cmp e.0 (in_key_order es)) ≡ false =
      ap is_some (find-in_key_order e.0 es) ∙ is_some-find key_cmp e.0 es ∙ not_among e.0 (map (λ e. e.0) es) (IsDistinct-head same_key e.0 (map (λ e. e.0) es) distinct)
      in
      let longer : length (in_key_order (e ∷ es)) ≡ length (in_key_order es) + 1 =
      length-put key_cmp nat_list_cmp_total e.0 e.1 (in_key_order es) (sorted-in_key_order es) ∙ ap (λ b. cond b (length (in_key_order es)) (length (in_key_order es) + 1)) new
      in
      omega (arith, longer, length-in_key_order es (IsDistinct-tail same_key e.0 (map (λ e. e.0) es) distinct))

  -- ---- sorting
  -- different keys that don't fall rise strictly
  pub sorted-from_distinct : (es : List (List ℕ × X)) → IsSortedBy (λ a b. is_lt (key_cmp a.0 b.0)) es → IsDistinct same_key (map (λ e. e.0) es) → T (is_sorted key_cmp es)
  sorted-from_distinct [] up distinct = tt
  sorted-from_distinct (e ∷ []) up distinct = tt
  sorted-from_distinct (e ∷ f ∷ es) up distinct =
      let rest : T (is_sorted key_cmp (f ∷ es)) =
      sorted-from_distinct (f ∷ es) (λ i d low high.
      let next : suc i + 1 ≡ suc (i + 1) = omega arith in
      subst (λ n. is_lt (key_cmp (get_or (e ∷ f ∷ es) n d).0 (get_or (f ∷ es) i d).0) ≡ false) next (up (suc i) d (omega arith) (omega arith))) (IsDistinct-tail same_key e.0 (map (λ e. e.0) (f ∷ es)) distinct)
      in
      let first = below e.0 f.0 (key_cmp e.0 f.0) refl (up 0 e (omega arith) (omega arith)) (IsDistinct-head same_key e.0 (map (λ e. e.0) (f ∷ es)) distinct).0 in
      both_so _ _ (both_so _ _ (is_lt-from_Less _ first) (below_all-further e.0 f.0 es first (below-rest f es rest))) rest

  kept : (q : List ℕ) (v : X) (es fs : List (List ℕ × X)) → IsPermutation es fs → IsDistinct same_key (map (λ e. e.0) fs) → lookup (same_key q) es ≡ Some v → lookup (same_key q) fs ≡ Some v
  kept q v es fs moved distinct is =
      let at = place_from_lookup (same_key q) es v is in
      let same : at.1 ≡ q = sym (same_key-exact q at.1 (Equal-from_is_eq _ at.3)) in
      let there = Contains-permutation es fs (at.1, v) moved (at.0, slice_get_within es at.0 (at.1, v) at.2, get_or_from_slice_get es at.0 (at.1, v) (at.1, v) at.2) in
      subst (λ k. lookup (same_key k) fs ≡ Some v) same
      (lookup_from_place same_key-IsEquivalence fs there.0 at.1 v distinct (slice_get_read fs (length fs) there.0 (at.1, v) refl there.1 (sym there.2)))

  -- entries of different keys, moved until they don't fall, are those in the order of their keys
  pub in_key_order-sorted : (es fs : List (List ℕ × X)) → IsDistinct same_key (map (λ e. e.0) es) → IsPermutation es fs → IsSortedBy (λ a b. is_lt (key_cmp a.0 b.0)) fs → fs ≡ in_key_order es
  in_key_order-sorted es fs distinct moved up =
      let distinct' = IsDistinct-IsPermutation same_key (λ x y. same_key-IsEquivalence.symm x y) (map (λ e. e.0) es) (map (λ e. e.0) fs) (IsPermutation-map (λ e. e.0) es fs moved) distinct in
      same_entries key_cmp nat_list_cmp_total same_key-exact fs (in_key_order es) (sorted-from_distinct fs up distinct') (sorted-in_key_order es) (λ q.
      sym (lookup-same_key q fs)
      ∙ same_found (lookup (same_key q) fs) (lookup (same_key q) es) (λ v is. kept q v fs es (IsPermutation-sym es fs moved) distinct is) (λ v is. kept q v es fs moved distinct' is)
      ∙ lookup-same_key q es
      ∙ sym (find-in_key_order q es))
