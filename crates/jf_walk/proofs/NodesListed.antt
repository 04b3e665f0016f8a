-- The nodes of a map are exactly those that are listed, and a landing writes those that the old map doesn't have.
use Rattle.std.proofs.Common.{ℕ, zero, suc, ◌+◌, ◌≤◌, true, false, cond, [], ◌∷◌, map, length, arith, ◌≡◌, ◌&&◌, Contains, sym, subst, ◌↔◌, Bool, ◌⊎◌, inl, inr, refl, ap, ap₂, ◌∙◌, true≢false}
use Rattle.std.proofs.lemmas.Bool.{not-true, not_from_false, false_from_ne_true}
use Rattle.std.proofs.lemmas.List.Elements.{All-from_recursion, All-map, recursion_from_All}
use Rattle.std.specs.Cmp.Derive.{both_true}
use Rattle.std.specs.FinMap.{entries}
use Rattle.std.specs.List.{AllByRecursion}
use Rattle.jf_path.specs.Paths.{IsPath}
use Rattle.jf_path.proofs.ListLaws.{All-weaker, Contains-first, Contains-later, Contains-map, All-of}
use Rattle.jf_path.proofs.BoolLaws.{left_true, right_true}
use Rattle.jf_path.proofs.FilterLaws.{Contains-filter, filter-Contains, filter-passes}
use Rattle.jf_hash.specs.Slots.{Part, with_nibble}
use Rattle.jf_hash.specs.Maps.{Map}
use Rattle.jf_model.specs.Nodes.{Path, has_one, has_two, nodes_below, under, is_node, nodes, is_fresh, fresh, same_part}
use Rattle.jf_model.specs.Walk.{each_from}
use Rattle.jf_model.proofs.NodeLaws.{IsListed, nodes_below-IsListed}
use Rattle.jf_walk.proofs.Elements.{All-each, Contains-each}
use Rattle.jf_walk.proofs.NodeLists.{child_nodes, lower_nodes}
use Rattle.jf_walk.proofs.NodePaths.{nibbles-is_node}
use Rattle.jf_walk.proofs.SameParts.{same_part-refl, same_part-exact}
use Rattle.jf_walk.proofs.Unchanged.{is_unchanged}

-- ---- below one node
-- no path of the list is longer than the levels that follow
pub nodes_below-short : (l d : ℕ) (es : Part) → AllByRecursion (λ x. length x.0 ≤ l) (nodes_below l d es)
unfolding nodes_below lower_nodes child_nodes
nodes_below-short zero d es = (omega arith, tt)
nodes_below-short (suc l) d es =
    let Short : Path × Part → Type 0 = λ x. length x.0 ≤ suc l in
    let child : (n : ℕ) → AllByRecursion Short (child_nodes l d es n) = λ n.
    let step : Path × Part → Path × Part = λ x. (n ∷ x.0, x.1) in
    let ys = nodes_below l (d + 1) (with_nibble d n es) in
    let each = All-weaker (λ x. length x.0 ≤ l) (λ x. Short (step x)) (λ x short. omega arith) ys (nodes_below-short l (d + 1) (with_nibble d n es)) in
    elim (has_one (with_nibble d n es)) as (λ b. AllByRecursion Short (cond b (map step ys) [])) [
      | true ↦ recursion_from_All Short (map step ys) (All-map Short step ys (All-from_recursion (λ x. Short (step x)) ys each))
      | false ↦ tt
    ] in
    (omega arith, elim (has_two es) as (λ b. AllByRecursion Short (cond b (each_from 16 0 (child_nodes l d es)) [])) [ true ↦ All-each Short 16 0 (child_nodes l d es) child | false ↦ tt ])

-- each node at most l levels down is listed, with its part
pub Contains-nodes_below : (l d : ℕ) (p : Path) (es : Part) → length p ≤ l → is_node d p es ≡ true → Contains (nodes_below l d es) (p, under d p es)
unfolding nodes_below is_node under lower_nodes child_nodes
Contains-nodes_below zero d [] es short node = Contains-first ([], es) []
Contains-nodes_below zero d (n ∷ p) es short node = absurd (omega arith)
Contains-nodes_below (suc l) d [] es short node = Contains-first ([], es) (lower_nodes l d es)
Contains-nodes_below (suc l) d (n ∷ p) es short node =
    let part = with_nibble d n es in
    let there = left_true (has_two es && has_one part) _ node in
    let at : Path × Part = (p, under (d + 1) p part) in
    let here : Path × Part = (n ∷ p, under (d + 1) p part) in
    let step : Path × Part → Path × Part = λ x. (n ∷ x.0, x.1) in
    let below = Contains-nodes_below l (d + 1) p part (omega arith) (right_true (has_two es && has_one part) _ node) in
    let child : Contains (child_nodes l d es n) here = subst (λ b. Contains (cond b (map step (nodes_below l (d + 1) part)) []) here) (sym (right_true (has_two es) _ there)) (Contains-map step (nodes_below l (d + 1) part) at below) in
    Contains-later here ([], es) (lower_nodes l d es)
    (subst (λ b. Contains (cond b (each_from 16 0 (child_nodes l d es)) []) here) (sym (left_true _ _ there)) (Contains-each 16 0 (child_nodes l d es) n here (omega arith) (nibbles-is_node d (n ∷ p) es node).0 child))

-- ---- all nodes of a map
-- a pair is listed exactly if it is a node with all entries under its path
pub nodes-exact : (m : Map) (x : Path × Part) → Contains (nodes m) x ↔ (IsPath x.0 × (x.1 ≡ under 0 x.0 (entries m)) × (is_node 0 x.0 (entries m) ≡ true))
unfolding nodes
nodes-exact m x = (
  λ has.
      let listed = All-of (IsListed 0 (entries m)) (nodes m) x (nodes_below-IsListed 64 0 (entries m)) has in
      (record { short = All-of (λ y. length y.0 ≤ 64) (nodes m) x (nodes_below-short 64 0 (entries m)) has; nibbles = nibbles-is_node 0 x.0 (entries m) listed.1 }, listed.0, listed.1),
  λ is. subst (λ part. Contains (nodes m) (x.0, part)) (sym is.1) (Contains-nodes_below 64 0 x.0 (entries m) is.0.short is.2),
)

-- ---- what a landing writes
-- a pair is written exactly if it is a node of the new map that is fresh
pub fresh-exact : (m m' : Map) (x : Path × Part) → Contains (fresh m m') x ↔ (Contains (nodes m') x × (is_fresh (entries m) (entries m') x.0 ≡ true))
unfolding fresh
fresh-exact m m' x =
    let test : Path × Part → Bool = λ y. is_fresh (entries m) (entries m') y.0 in
    (λ has. (filter-Contains test (nodes m') x has, filter-passes test (nodes m') x has), λ is. Contains-filter test (nodes m') x is.0 is.1)

-- a node of the new map is fresh exactly if it is the top or no node of the old map with this part
pub is_fresh-other : (m m' : Map) (p : Path) (part : Part) → Contains (nodes m') (p, part) → (is_fresh (entries m) (entries m') p ≡ true) ↔ ((p ≡ []) ⊎ (¬ (Contains (nodes m) (p, part))))
unfolding is_fresh
is_fresh-other m m' [] part has = (λ is. inl refl, λ is. refl)
is_fresh-other m m' (n ∷ p) part has =
    let path : Path = n ∷ p in
    let new = (nodes-exact m' (path, part)).0 has in (
      λ is. inr (λ old.
          let was = (nodes-exact m (path, part)).0 old in
          let stay : is_unchanged 0 path (entries m) (entries m') ≡ true = both_true was.2 (ap₂ same_part (sym was.1) (sym new.1) ∙ same_part-refl part) in
          true≢false (sym stay ∙ not-true (is_unchanged 0 path (entries m) (entries m')) (right_true (is_node 0 path (entries m')) _ is))),
      λ is. elim is [
        | inl top ↦ absurd (let e = ap length top in omega arith)
        | inr other ↦ both_true new.2 (not_from_false (is_unchanged 0 path (entries m) (entries m')) (false_from_ne_true (is_unchanged 0 path (entries m) (entries m')) (λ stay. other ((nodes-exact m (path, part)).1 (
          new.0,
          new.1 ∙ sym (same_part-exact (under 0 path (entries m)) (under 0 path (entries m')) (right_true (is_node 0 path (entries m)) _ stay)),
          left_true (is_node 0 path (entries m)) _ stay,
        )))))
      ],
    )

-- a pair is written exactly if it is a node of the new map, and the top or no node of the old one
pub fresh-differs : (m m' : Map) (x : Path × Part) → Contains (fresh m m') x ↔ (Contains (nodes m') x × ((x.0 ≡ []) ⊎ (¬ (Contains (nodes m) x))))
fresh-differs m m' x = (
  λ has. let is = (fresh-exact m m' x).0 has in (is.0, (is_fresh-other m m' x.0 x.1 is.0).0 is.1),
  λ is. (fresh-exact m m' x).1 (is.0, (is_fresh-other m m' x.0 x.1 is.0).1 is.1),
)
