-- What a landing writes: nodes with their parts, each once, in the order of their paths.
use Rattle.std.proofs.Common.{◌≡◌, ℕ, ◌≤◌, ◌∷◌, ◌+◌, List, [], ◌++◌, T, ap, ◌∙◌, arith, zero, suc, sym, subst, ◌&&◌, map, refl, is_lt, true, false, cond, Less}
use Rattle.std.specs.Cmp.{tied_itself}
use Rattle.std.specs.Cmp.Lexicographic.{nat_list_cmp_total}
use Rattle.std.specs.FinMap.{entries, is_sorted}
use Rattle.std.specs.FinMap.Entries.{below_all, is_sorted-where_key}
use Rattle.std.specs.List.{AllByRecursion, flat_map, AllPairs}
use Rattle.std.specs.Ordering.{ordering_then}
use Rattle.jf_path.specs.Keys.{key_cmp}
use Rattle.jf_path.proofs.FilterLaws.{All-filter}
use Rattle.jf_path.proofs.BoolLaws.{left_so, right_so, both_so}
use Rattle.jf_path.proofs.OrderLaws.{is_lt-from_Less, nat_less, nat_tied}
use Rattle.jf_path.proofs.ListLaws.{All-append, All-weaker}
use Rattle.jf_hash.specs.Maps.{Map}
use Rattle.jf_hash.specs.Slots.{Part, with_nibble, all_nibbles}
use Rattle.jf_hash.proofs.KeyOrder.{below-rest, sorted-rest, sorted-rises}
use Rattle.jf_model.specs.Nodes.{Path, is_fresh, nodes_below, nodes, fresh, has_one, has_two}
use Rattle.jf_model.specs.Walk.{each_from}
use Rattle.jf_model.proofs.NodeLaws.{IsListed, nodes_below-IsListed}
use Rattle.jf_walk.proofs.NodeLists.{child_nodes}

-- each pair is a node of the new map, with all entries under its path
pub fresh-IsListed : (m m' : Map) → AllByRecursion (IsListed 0 (entries m')) (fresh m m')
unfolding fresh nodes
fresh-IsListed m m' = All-filter (IsListed 0 (entries m')) (λ (x : Path × Part). is_fresh (entries m) (entries m') x.0) (nodes_below 64 0 (entries m')) (nodes_below-IsListed 64 0 (entries m'))

-- ---- the order of paths
-- a path begins with a nibble of n or more
abbrev From : ℕ → Path × Part → Type 0
From n x = (m : ℕ) × (n ≤ m) × ((p : Path) × (x.0 ≡ m ∷ p))

-- a path begins with the nibble n
abbrev At : ℕ → Path × Part → Type 0
At n x = (p : Path) × (x.0 ≡ n ∷ p)

below_append : (k : Path) (xs ys : List (Path × Part)) → T (below_all key_cmp k xs) → T (below_all key_cmp k ys) → T (below_all key_cmp k (xs ++ ys))
below_append k [] ys h j = j
below_append k (x ∷ xs) ys h j = both_so _ _ (left_so _ _ h) (below_append k xs ys (right_so _ _ h) j)

sorted_append : (xs ys : List (Path × Part)) → T (is_sorted key_cmp xs) → T (is_sorted key_cmp ys) → AllByRecursion (λ x. T (below_all key_cmp x.0 ys)) xs → T (is_sorted key_cmp (xs ++ ys))
sorted_append [] ys h k a = k
sorted_append (x ∷ xs) ys h k a = both_so _ _ (below_append x.0 xs ys (below-rest x xs h) a.0) (sorted_append xs ys (sorted-rest x xs h) k a.1)

-- a path that begins with n is below one that begins with a greater nibble
below_from : (n : ℕ) (p : Path) (ys : List (Path × Part)) → AllByRecursion (From (n + 1)) ys → T (below_all key_cmp (n ∷ p) ys)
below_from n p [] h = tt
below_from n p (y ∷ ys) h =
    both_so _ _ (is_lt-from_Less _ (ap (key_cmp (n ∷ p)) h.0.2.1 ∙ ap (λ r. ordering_then r (key_cmp p h.0.2.0)) (nat_less n h.0.0 (let up = h.0.1 in omega arith)))) (below_from n p ys h.1)

from_each : (count n : ℕ) (k : ℕ → List (Path × Part)) → ((m : ℕ) → AllByRecursion (At m) (k m)) → AllByRecursion (From n) (each_from count n k)
from_each zero n k h = tt
from_each (suc count) n k h =
    All-append (From n) (k n) (each_from count (n + 1) k)
    (All-weaker (At n) (From n) (λ x at. (n, omega arith, at)) (k n) (h n))
    (All-weaker (From (n + 1)) (From n) (λ x from. (from.0, (let up = from.1 in omega arith), from.2)) (each_from count (n + 1) k) (from_each count (n + 1) k h))

sorted_each : (count n : ℕ) (k : ℕ → List (Path × Part)) → ((m : ℕ) → AllByRecursion (At m) (k m)) → ((m : ℕ) → T (is_sorted key_cmp (k m))) → T (is_sorted key_cmp (each_from count n k))
sorted_each zero n k at sorted = tt
sorted_each (suc count) n k at sorted =
    sorted_append (k n) (each_from count (n + 1) k) (sorted n) (sorted_each count (n + 1) k at sorted)
    (All-weaker (At n) (λ x. T (below_all key_cmp x.0 (each_from count (n + 1) k)))
    (λ x is. subst (λ q. T (below_all key_cmp q (each_from count (n + 1) k))) (sym is.1) (below_from n is.0 (each_from count (n + 1) k) (from_each count (n + 1) k at))) (k n) (at n))

-- the same first nibble before all paths doesn't change their order
below_step : (n : ℕ) (p : Path) (xs : List (Path × Part)) → T (below_all key_cmp p xs) → T (below_all key_cmp (n ∷ p) (map (λ (x : Path × Part). (n ∷ x.0, x.1)) xs))
below_step n p xs h = subst T (sym (same n p xs)) h
  where
    same : (n : ℕ) (p : Path) (xs : List (Path × Part)) → below_all key_cmp (n ∷ p) (map (λ (x : Path × Part). (n ∷ x.0, x.1)) xs) ≡ below_all key_cmp p xs
    same n p [] = refl
    same n p (x ∷ xs) = ap (λ r. is_lt (ordering_then r (key_cmp p x.0)) && below_all key_cmp (n ∷ p) (map (λ (x : Path × Part). (n ∷ x.0, x.1)) xs)) (nat_tied n) ∙ ap (λ b. is_lt (key_cmp p x.0) && b) (same n p xs)

sorted_step : (n : ℕ) (xs : List (Path × Part)) → T (is_sorted key_cmp xs) → T (is_sorted key_cmp (map (λ (x : Path × Part). (n ∷ x.0, x.1)) xs))
sorted_step n [] h = tt
sorted_step n (x ∷ xs) h = both_so _ _ (below_step n x.0 xs (below-rest x xs h)) (sorted_step n xs (sorted-rest x xs h))

at_step : (n : ℕ) (xs : List (Path × Part)) → AllByRecursion (At n) (map (λ (x : Path × Part). (n ∷ x.0, x.1)) xs)
at_step n [] = tt
at_step n (x ∷ xs) = ((x.0, refl), at_step n xs)

-- the top is below every path that begins with a nibble
top_first : (n : ℕ) (xs : List (Path × Part)) → AllByRecursion (From n) xs → T (below_all key_cmp [] xs)
top_first n [] h = tt
top_first n (x ∷ xs) h = both_so _ _ (is_lt-from_Less _ (ap (key_cmp []) h.0.2.1)) (top_first n xs h.1)

at_child : (l d : ℕ) (es : Part) (n : ℕ) → AllByRecursion (At n) (child_nodes l d es n)
unfolding child_nodes
at_child l d es n = elim (has_one (with_nibble d n es)) as (λ b. AllByRecursion (At n) (cond b (map (λ (x : Path × Part). (n ∷ x.0, x.1)) (nodes_below l (d + 1) (with_nibble d n es))) [])) [
  | true ↦ at_step n (nodes_below l (d + 1) (with_nibble d n es))
  | false ↦ tt
]

-- the list of nodes is in the order of paths
pub sorted-nodes_below : (l d : ℕ) (es : Part) → T (is_sorted key_cmp (nodes_below l d es))
unfolding nodes_below child_nodes
sorted-nodes_below zero d es = tt
sorted-nodes_below (suc l) d es =
    let sorted : (n : ℕ) → T (is_sorted key_cmp (child_nodes l d es n)) = λ n.
    elim (has_one (with_nibble d n es)) as (λ b. T (is_sorted key_cmp (cond b (map (λ (x : Path × Part). (n ∷ x.0, x.1)) (nodes_below l (d + 1) (with_nibble d n es))) []))) [
      | true ↦ sorted_step n (nodes_below l (d + 1) (with_nibble d n es)) (sorted-nodes_below l (d + 1) (with_nibble d n es))
      | false ↦ tt
    ] in
    elim (has_two es) as (λ b. T (is_sorted key_cmp (([], es) ∷ cond b (flat_map (child_nodes l d es) all_nibbles) []))) [
      | true ↦ both_so _ _ (top_first 0 (each_from 16 0 (child_nodes l d es)) (from_each 16 0 (child_nodes l d es) (at_child l d es))) (sorted_each 16 0 (child_nodes l d es) (at_child l d es) sorted)
      | false ↦ tt
    ]

-- the paths of what a landing writes ascend strictly
pub sorted-fresh : (m m' : Map) → T (is_sorted key_cmp (fresh m m'))
unfolding fresh nodes
sorted-fresh m m' = is_sorted-where_key key_cmp (is_fresh (entries m) (entries m')) (nodes_below 64 0 (entries m')) (sorted-nodes_below 64 0 (entries m'))

-- a landing writes no path twice
pub distinct-fresh : (m m' : Map) → AllPairs (λ x y. ¬ (x.0 ≡ y.0)) (fresh m m')
distinct-fresh m m' i j d lt within same = apart _ _ (sorted-rises (fresh m m') i j d (sorted-fresh m m') lt within) same
  where
    apart : (a b : Path) → key_cmp a b ≡ Less → ¬ (a ≡ b)
    apart a b less is = absurd (let e = sym (tied_itself nat_list_cmp_total b) ∙ ap (λ q. key_cmp q b) (sym is) ∙ less in cc)
