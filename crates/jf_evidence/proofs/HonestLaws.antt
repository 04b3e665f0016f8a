-- What a map says of a key is accepted with the honest proof of it.
use Rattle.std.specs.Prelude.{◌≡◌, ℕ, zero, suc, ◌+◌, ◌<◌, ◌≤◌, true, false, cond, List, T, ◌∷◌, Bool, [], filter, None, not, Option, Some, IfSome, length, ◌&&◌, map, option_map, bytes_eq, nat_lt}
use Rattle.std.proofs.Common.{arith, sym, ap₂, ◌∙◌, Less, Greater, inl, inr, refl, ap, length-append, is_lt, subst}
use Rattle.std.proofs.lemmas.Bool.{not-true}
use Rattle.std.proofs.lemmas.Bool.Decides.{eqb_tells, nat_tests}
use Rattle.std.proofs.lemmas.Slice.Eq.{bytes_eq-Decides}
use Rattle.std.specs.Bool.{beq}
use Rattle.std.specs.Cmp.{eq_by_cmp_equiv, Equal-is}
use Rattle.std.specs.Cmp.Lexicographic.{nat_list_cmp_total}
use Rattle.std.specs.FinMap.{is_sorted, find, entries}
use Rattle.std.specs.FinMap as fin
use Rattle.std.specs.FinMap.Entries.{is_sorted-where_key, find-where_key, below_all}
use Rattle.std.specs.List.{AllByRecursion}
use Rattle.jf_path.specs.Keys.{bit, key_cmp, IsKey, IsBytes}
use Rattle.jf_path.specs.Nibbles.{common_from, common_bits}
use Rattle.jf_path.proofs.FilterLaws.{All-filter}
use Rattle.jf_hash.specs.Roots.{Leaf, zeros, ones, leaf_of, root}
use Rattle.jf_hash.specs.Hashes.{V}
use Rattle.jf_hash.specs.Maps.{same_key, Map, IsMap}
use Rattle.jf_hash.proofs.KeyOrder.{key_cmp-turned, below-first, below-rest, same_key-exact}
use Rattle.jf_hash.proofs.Bits.{same_bits}
use Rattle.jf_evidence.specs.Proofs.{far, near, honest_below, leaves, honest, honest_from, is_wrong_leaf, is_wrong_prefix, proof_root, refusal, IsLeaf}
use Rattle.jf_evidence.proofs.ProofLaws.{honest-root, honest-short}

-- ---- keys by their bits
-- keys that agree in their first bits have as many in common
common_from-agree : (n m i : ℕ) (a b : List ℕ) → m ≤ n → ((j : ℕ) → i ≤ j → j < i + m → bit a j ≡ bit b j) → m ≤ common_from n i a b
unfolding common_from
common_from-agree n zero i a b le agree = omega arith
common_from-agree zero (suc m) i a b le agree = absurd (omega arith)
common_from-agree (suc n) (suc m) i a b le agree =
    let rest = common_from-agree n m (i + 1) a b (omega arith) (λ j ge lt. agree j (omega arith) (omega arith)) in
    rw (agree i (omega arith) (omega arith)) (
    elim (bit b i) as (λ t. suc m ≤ cond (beq t t) (1 + common_from n (i + 1) a b) 0) [ true ↦ omega arith | false ↦ omega arith ])

-- ---- the leaves on a key's way
-- leaves in the order of their keys, which begin with the first d bits of a key
record OnWay (d : ℕ) (key : List ℕ) (es : List Leaf) : Type 0 where
  sorted : T (is_sorted key_cmp es)
  keys : AllByRecursion (λ e. IsKey e.0) es
  agree : AllByRecursion (λ e. (i : ℕ) → i < d → bit e.0 i ≡ bit key i) es

-- no two leaves agree with a key in all bits
deeper : (d : ℕ) (key : List ℕ) (e f : Leaf) (es : List Leaf) → OnWay d key (e ∷ f ∷ es) → 256 ≤ d → ⊥
deeper d key e f es way far =
    let same : e.0 ≡ f.0 = same_bits e.0 f.0 way.keys.0 way.keys.1.0 (λ j lt. way.agree.0 j (omega arith) ∙ sym (way.agree.1.0 j (omega arith))) in
    let lt : key_cmp e.0 f.0 ≡ Less = below-first e.0 f es (below-rest e (f ∷ es) way.sorted) in
    let gt : key_cmp f.0 e.0 ≡ Greater = key_cmp-turned e.0 f.0 Less lt in
    let turned : key_cmp e.0 f.0 ≡ key_cmp f.0 e.0 = ap₂ key_cmp same (sym same) in
    absurd (cc)

one_more : (d : ℕ) (key k : List ℕ) → ((i : ℕ) → i < d → bit k i ≡ bit key i) → bit k d ≡ bit key d → (i : ℕ) → i < d + 1 → bit k i ≡ bit key i
one_more d key k before here i lt = elim (eqb_tells i d) [ inl e ↦ rw e.1 here | inr e ↦ before i (let ne = e.1 in omega arith) ]

-- a test that passes keys with the key's bit d
module _ (d : ℕ) (key : List ℕ) (p : List ℕ → Bool) (exact : (k : List ℕ) → p k ≡ true → bit k d ≡ bit key d) where
  agree_filter : (es : List Leaf) → AllByRecursion (λ e. (i : ℕ) → i < d → bit e.0 i ≡ bit key i) es → AllByRecursion (λ e. (i : ℕ) → i < d + 1 → bit e.0 i ≡ bit key i) (filter (λ e. p e.0) es)
  agree_filter [] all = tt
  agree_filter (e ∷ es) all =
      elim (p e.0) as (λ b. p e.0 ≡ b → AllByRecursion (λ e. (i : ℕ) → i < d + 1 → bit e.0 i ≡ bit key i) (cond b (e ∷ filter (λ e. p e.0) es) (filter (λ e. p e.0) es))) [
        | true ↦ λ is. (one_more d key e.0 all.0 (exact e.0 is), agree_filter es all.1)
        | false ↦ λ is. agree_filter es all.1
      ] refl

  way_filter : (es : List Leaf) → OnWay d key es → OnWay (d + 1) key (filter (λ e. p e.0) es)
  way_filter es way = record {
    sorted = is_sorted-where_key key_cmp p es way.sorted;
    keys = All-filter (λ e. IsKey e.0) (λ e. p e.0) es way.keys;
    agree = agree_filter es way.agree;
  }

  find_filter : (es : List Leaf) → p key ≡ true → find key_cmp key (filter (λ e. p e.0) es) ≡ find key_cmp key es
  find_filter es is = find-where_key key_cmp p key (λ x e. ap p (sym (same_key-exact key x e))) es ∙ ap (λ b. cond b (find key_cmp key es) None) is

-- the near part is on the way too, and finds for the key what the whole finds
near_way : (d : ℕ) (key : List ℕ) (es : List Leaf) → OnWay d key es → OnWay (d + 1) key (near key d es) × (find key_cmp key (near key d es) ≡ find key_cmp key es)
near_way d key es way =
    elim (bit key d) as (λ b. bit key d ≡ b → OnWay (d + 1) key (cond b (ones d es) (zeros d es)) × (find key_cmp key (cond b (ones d es) (zeros d es)) ≡ find key_cmp key es)) [
      | true ↦ λ is. (
        way_filter d key (λ k. bit k d) (λ k e. e ∙ sym is) es way,
        find_filter d key (λ k. bit k d) (λ k e. e ∙ sym is) es is,
      )
      | false ↦ λ is. (
        way_filter d key (λ k. not (bit k d)) (λ k e. not-true _ e ∙ sym is) es way,
        find_filter d key (λ k. not (bit k d)) (λ k e. not-true _ e ∙ sym is) es (ap not is),
      )
    ] refl

-- ---- the leaf of the honest proof
abbrev as_list : Option Leaf → List Leaf
as_list None = []
as_list (Some leaf) = leaf ∷ []

-- the leaf at the end of a way: it says of the key what all the leaves say, and agrees with the key in as many bits as there are siblings
record FindsAndAgrees (d : ℕ) (key : List ℕ) (es : List Leaf) (leaf : Option Leaf) (count : ℕ) : Type 0 where
  found : find key_cmp key es ≡ find key_cmp key (as_list leaf)
  agree : IfSome leaf (λ l. IsKey l.0 × ((i : ℕ) → i < d + count → bit l.0 i ≡ bit key i))

one_longer : (d : ℕ) (key : List ℕ) (es fs : List Leaf) (leaf : Option Leaf) (count longer : ℕ) → find key_cmp key fs ≡ find key_cmp key es → longer ≡ count + 1 → FindsAndAgrees (d + 1) key fs leaf count → FindsAndAgrees d key es leaf longer
one_longer d key es fs None count longer same e s = record { found = sym same ∙ s.found; agree = tt }
one_longer d key es fs (Some leaf) count longer same e s = record { found = sym same ∙ s.found; agree = (s.agree.0, λ i lt. s.agree.1 i (omega arith)) }

honest_shows : (n d : ℕ) (key : List ℕ) (es : List Leaf) → 256 ≤ d + n → OnWay d key es → FindsAndAgrees d key es (honest_below n d key es).leaf (length (honest_below n d key es).siblings)
unfolding honest_below
honest_shows n d key [] fuel way = record { found = refl; agree = tt }
honest_shows n d key (e ∷ []) fuel way = record { found = refl; agree = (way.keys.0, λ i lt. way.agree.0 i (omega arith)) }
honest_shows zero d key (e ∷ f ∷ es) fuel way = absurd (deeper d key e f es way (omega arith))
honest_shows (suc n) d key (e ∷ f ∷ es) fuel way =
    let part = near key d (e ∷ f ∷ es) in
    let step = near_way d key (e ∷ f ∷ es) way in
    let p = honest_below n (d + 1) key part in
    one_longer d key (e ∷ f ∷ es) part p.leaf (length p.siblings) _ step.1 (length-append p.siblings _) (honest_shows n (d + 1) key part (omega arith) step.0)

-- ---- the leaves of a map
below_leaves : (k : List ℕ) (es : List (List ℕ × List ℕ)) → below_all key_cmp k (map leaf_of es) ≡ below_all key_cmp k es
below_leaves k [] = refl
below_leaves k (e ∷ es) = ap (λ b. is_lt (key_cmp k e.0) && b) (below_leaves k es)

sorted_leaves : (es : List (List ℕ × List ℕ)) → is_sorted key_cmp (map leaf_of es) ≡ is_sorted key_cmp es
sorted_leaves [] = refl
sorted_leaves (e ∷ es) = ap₂ (λ a b. a && b) (below_leaves e.0 es) (sorted_leaves es)

keys_of_leaves : (es : List (List ℕ × List ℕ)) → AllByRecursion (λ e. IsKey e.0 × IsBytes e.1) es → AllByRecursion (λ e. IsKey e.0) (map leaf_of es)
keys_of_leaves [] all = tt
keys_of_leaves (e ∷ es) all = (all.0.0, keys_of_leaves es all.1)

find_leaves : (key : List ℕ) (es : List (List ℕ × List ℕ)) → find key_cmp key (map leaf_of es) ≡ option_map V (find key_cmp key es)
find_leaves key [] = refl
find_leaves key (e ∷ es) =
    elim (same_key key e.0) as (λ b. cond b (Some (V e.1)) (find key_cmp key (map leaf_of es)) ≡ option_map V (cond b (Some e.1) (find key_cmp key es))) [ true ↦ refl | false ↦ find_leaves key es ]

agree_from_none : (key : List ℕ) (es : List Leaf) → AllByRecursion (λ e. (i : ℕ) → i < 0 → bit e.0 i ≡ bit key i) es
agree_from_none key [] = tt
agree_from_none key (e ∷ es) = (λ i lt. absurd (omega arith), agree_from_none key es)

map_way : (m : Map) (key : List ℕ) → IsMap m → OnWay 0 key (leaves m)
map_way m key is_map = record {
  sorted = subst T (sym (sorted_leaves (entries m))) (fin.entries_sorted m);
  keys = keys_of_leaves (entries m) is_map;
  agree = agree_from_none key (leaves m);
}

map_shows : (m : Map) (key : List ℕ) → IsMap m → FindsAndAgrees 0 key (leaves m) (honest m key).leaf (length (honest m key).siblings)
unfolding honest honest_from
map_shows m key is_map = honest_shows 256 0 key (leaves m) (omega arith) (map_way m key is_map)

-- ---- the checks
own_key : (key k : List ℕ) → bytes_eq k key ≡ true → same_key key k ≡ true
own_key key k is = rw ((bytes_eq-Decides k key).0 is) ((eq_by_cmp_equiv nat_list_cmp_total).refl key)

-- a leaf that says of a key what is claimed isn't refused
right_leaf : (key : List ℕ) (claim : Option (List ℕ)) (leaf : Option Leaf) → option_map V claim ≡ find key_cmp key (as_list leaf) → is_wrong_leaf key claim leaf ≡ false
right_leaf key None None found = refl
right_leaf key (Some v) None found = absurd (cc)
right_leaf key None (Some leaf) found =
    elim (bytes_eq leaf.0 key) as (λ b. bytes_eq leaf.0 key ≡ b → b ≡ false) [
      | true ↦ λ is. let same : same_key key leaf.0 ≡ true = own_key key leaf.0 is in absurd (let none = rw same at found in cc)
      | false ↦ λ is. refl
    ] refl
right_leaf key (Some v) (Some leaf) found =
    elim (same_key key leaf.0) as (λ b. same_key key leaf.0 ≡ b → Some (V v) ≡ cond b (Some leaf.1) None → not (bytes_eq leaf.0 key && bytes_eq leaf.1 (V v)) ≡ false) [
      | true ↦ λ is given.
          let key_is : bytes_eq leaf.0 key ≡ true = (bytes_eq-Decides leaf.0 key).1 (sym (same_key-exact key leaf.0 ((Equal-is _).0 is))) in
          let hash_is : bytes_eq leaf.1 (V v) ≡ true = (bytes_eq-Decides leaf.1 (V v)).1 (cc) in
          rw (key_is, hash_is) refl
      | false ↦ λ is given. absurd (cc)
    ] refl found

right_prefix : (key : List ℕ) (claim : Option (List ℕ)) (leaf : Option Leaf) (count : ℕ) → count ≤ 256 → IfSome leaf (λ l. IsKey l.0 × ((i : ℕ) → i < 0 + count → bit l.0 i ≡ bit key i)) → is_wrong_prefix key claim leaf count ≡ false
unfolding common_bits
right_prefix key (Some v) leaf count short agree = refl
right_prefix key None None count short agree = refl
right_prefix key None (Some leaf) count short agree =
    let enough : count ≤ common_from 256 0 leaf.0 key = common_from-agree 256 count 0 leaf.0 key short (λ j ge lt. agree.1 j (omega arith)) in
    grind (arith, nat_tests)

-- what a map says of any key is accepted with the honest proof
pub honest-accepted : (m : Map) (key : List ℕ) → IsMap m → refusal (root m) key (fin.get m key) (honest m key) ≡ None
unfolding refusal
honest-accepted m key is_map =
    let shows = map_shows m key is_map in
    let short = honest-short m key in
    let not_deep : nat_lt 256 (length (honest m key).siblings) ≡ false = grind (arith, nat_tests) in
    let leaf = right_leaf key (fin.get m key) (honest m key).leaf (ap (option_map V) (fin.get-entries m key) ∙ sym (find_leaves key (entries m)) ∙ shows.found) in
    let prefix = right_prefix key (fin.get m key) (honest m key).leaf (length (honest m key).siblings) short shows.agree in
    let top : not (bytes_eq (proof_root key (honest m key)) (root m)) ≡ false = ap not ((bytes_eq-Decides _ _).1 (honest-root m key)) in
    rw (not_deep, leaf, prefix, top) refl

leaf_shown : (d : ℕ) (key : List ℕ) (es : List Leaf) (leaf : Option Leaf) (count : ℕ) → FindsAndAgrees d key es leaf count → IsLeaf leaf
leaf_shown d key es None count shows = tt
leaf_shown d key es (Some leaf) count shows = shows.agree.0

-- the leaf of an honest proof has a key
pub honest-IsLeaf : (m : Map) (key : List ℕ) → IsMap m → IsLeaf (honest m key).leaf
honest-IsLeaf m key is_map = leaf_shown 0 key (leaves m) (honest m key).leaf _ (map_shows m key is_map)
