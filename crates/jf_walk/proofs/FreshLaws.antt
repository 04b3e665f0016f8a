-- The walk lists exactly the nodes that a landing writes.
use Rattle.std.proofs.Common.{◌≡◌, true, false, not, ◌&&◌, refl, ap, ℕ, map, filter, ◌+◌, Bool, List, [], ◌∷◌, ◌++◌, sym, ap₂, ◌∙◌, cond, zero, suc, inl, inr}
use Rattle.std.proofs.lemmas.List.{map-append}
use Rattle.std.proofs.lemmas.List.Elements.{filter-append}
use Rattle.std.proofs.lemmas.Simd.{map-map}
use Rattle.std.specs.FinMap.{entries}
use Rattle.std.specs.List.{flat_map, AllByRecursion}
use Rattle.jf_path.proofs.ListLaws.{All-weaker, All-by_place}
use Rattle.jf_path.proofs.FilterLaws.{filter-map, filter-same, filter_none}
use Rattle.jf_hash.specs.Slots.{Part, with_nibble, all_nibbles}
use Rattle.jf_hash.specs.Maps.{Map}
use Rattle.jf_model.specs.Nodes.{has_one, same_part, Path, nodes_below, has_two, is_node, under, is_fresh, nodes, fresh}
use Rattle.jf_model.specs.Walk.{differs, list_of_new_nodes, each_from, with_root}
use Rattle.jf_model.specs.ChildEntries.{child_entries}
use Rattle.jf_model.proofs.NodeLaws.{IsListed, nodes_below-IsListed}
use Rattle.jf_walk.proofs.SameParts.{same_part-exact, same_or_other}
use Rattle.jf_walk.proofs.Unchanged.{is_unchanged, is_unchanged-child_entries, is_unchanged-same}
use Rattle.jf_walk.proofs.NodeLists.{child_nodes, lower_nodes}
use Rattle.jf_walk.proofs.SubLaws.{none-has_one}
use Rattle.jf_walk.proofs.WalkLaws.{listed-gone, each-nil, listed-same}

differs-is : (old new : Part) → has_one new ≡ true → ¬ (old ≡ new) → (differs old new ≡ true) × (same_part old new ≡ false)
differs-is old new some other = elim (same_part old new) as (λ b. same_part old new ≡ b → ((has_one new && not b) ≡ true) × (b ≡ false)) [
  | true ↦ λ is. absurd (other (same_part-exact old new is))
  | false ↦ λ is. (ap (λ b. b && true) some, refl)
] refl

-- walking l levels below one node lists f of the path of each node there that doesn't stay
abbrev Walks : Type 0 → ℕ → Type 0
Walks X l = (d : ℕ) (old new : Part) (f : Path → X) → has_one new ≡ true → list_of_new_nodes l d old new f ≡ map (λ (x : Path × Part). f x.0) (filter (λ (x : Path × Part). not (is_unchanged d x.0 old new)) (nodes_below l d new))

module _ {X : Type 0} where
  by_nibble : (F : Path × Part → X) (test : Path × Part → Bool) (g : ℕ → List X) (k : ℕ → List (Path × Part)) → ((n : ℕ) → g n ≡ map F (filter test (k n))) → (ns : List ℕ) → flat_map g ns ≡ map F (filter test (flat_map k ns))
  by_nibble F test g k h [] = refl
  by_nibble F test g k h (n ∷ ns) =
      ap₂ (λ a b. a ++ b) (h n) (by_nibble F test g k h ns) ∙ sym (map-append F (filter test (k n)) (filter test (flat_map k ns))) ∙ ap (map F) (sym (filter-append test (k n) (flat_map k ns)))

  -- the walk over one child
  one_child : (l d n : ℕ) (old new : Part) (f : Path → X) (test : Path → Bool) → Walks X l → has_two new ≡ true → ((p : Path) → is_node d (n ∷ p) new ≡ true → test (n ∷ p) ≡ not (is_unchanged d (n ∷ p) old new))
      → list_of_new_nodes l (d + 1) (child_entries d n old) (child_entries d n new) (λ p. f (n ∷ p)) ≡ map (λ (x : Path × Part). f x.0) (filter (λ (x : Path × Part). test x.0) (child_nodes l d new n))
  unfolding is_node child_nodes
  one_child l d n old new f test walks two same =
      let part = with_nibble d n new in
      let ys = nodes_below l (d + 1) part in
      let g : Path → X = λ p. f (n ∷ p) in
      ap (λ b. list_of_new_nodes l (d + 1) (child_entries d n old) (cond b part []) g) two
      ∙ (elim (has_one part) as (λ b. has_one part ≡ b → list_of_new_nodes l (d + 1) (child_entries d n old) part g ≡ map (λ (x : Path × Part). f x.0) (filter (λ (x : Path × Part). test x.0) (cond b (map (λ (x : Path × Part). (n ∷ x.0, x.1)) ys) []))) [
        | true ↦ λ some.
            let agree : AllByRecursion (λ (x : Path × Part). not (is_unchanged (d + 1) x.0 (child_entries d n old) part) ≡ test (n ∷ x.0)) ys =
            All-weaker (IsListed (d + 1) part) (λ (x : Path × Part). not (is_unchanged (d + 1) x.0 (child_entries d n old) part) ≡ test (n ∷ x.0))
            (λ x is. ap not (sym (is_unchanged-child_entries d n x.0 old new some)) ∙ sym (same x.0 (ap₂ (λ a b. a && b) (ap₂ (λ a b. a && b) two some) is.1))) ys (nodes_below-IsListed l (d + 1) part) in
            walks (d + 1) (child_entries d n old) part g some
            ∙ ap (map (λ (x : Path × Part). f (n ∷ x.0))) (filter-same (λ (x : Path × Part). not (is_unchanged (d + 1) x.0 (child_entries d n old) part)) (λ (x : Path × Part). test (n ∷ x.0)) ys agree)
            ∙ sym (map-map (λ (x : Path × Part). f x.0) (λ (x : Path × Part). (n ∷ x.0, x.1)) (filter (λ (x : Path × Part). test (n ∷ x.0)) ys))
            ∙ ap (map (λ (x : Path × Part). f x.0)) (sym (filter-map (λ (x : Path × Part). test x.0) (λ (x : Path × Part). (n ∷ x.0, x.1)) ys))
        | false ↦ λ none. ap (λ es. list_of_new_nodes l (d + 1) (child_entries d n old) es g) (none-has_one part none) ∙ listed-gone l (d + 1) (child_entries d n old) g
      ] refl)

  -- the walk over all sixteen children, for any test that says which nodes don't stay
  pub children : (l d : ℕ) (old new : Part) (f : Path → X) (test : Path → Bool) → Walks X l → ((n : ℕ) (p : Path) → is_node d (n ∷ p) new ≡ true → test (n ∷ p) ≡ not (is_unchanged d (n ∷ p) old new))
      → each_from 16 0 (λ n. list_of_new_nodes l (d + 1) (child_entries d n old) (child_entries d n new) (λ p. f (n ∷ p))) ≡ map (λ (x : Path × Part). f x.0) (filter (λ (x : Path × Part). test x.0) (lower_nodes l d new))
  unfolding lower_nodes child_nodes
  children l d old new f test walks same =
      let g : ℕ → List X = λ n. list_of_new_nodes l (d + 1) (child_entries d n old) (child_entries d n new) (λ p. f (n ∷ p)) in
      let k : ℕ → List (Path × Part) = λ n. child_nodes l d new n in
      elim (has_two new) as (λ b. has_two new ≡ b → each_from 16 0 g ≡ map (λ (x : Path × Part). f x.0) (filter (λ (x : Path × Part). test x.0) (cond b (flat_map k all_nibbles) []))) [
        | true ↦ λ two. by_nibble (λ (x : Path × Part). f x.0) (λ (x : Path × Part). test x.0) g k (λ n. one_child l d n old new f test walks two (same n)) all_nibbles
        | false ↦ λ few. each-nil 16 0 g (λ n. ap (λ b. list_of_new_nodes l (d + 1) (child_entries d n old) (cond b (with_nibble d n new) []) (λ p. f (n ∷ p))) few ∙ listed-gone l (d + 1) (child_entries d n old) (λ p. f (n ∷ p)))
      ] refl

  unchanged : (l d : ℕ) (old new : Part) (f : Path → X) → old ≡ new → list_of_new_nodes l d old new f ≡ map (λ (x : Path × Part). f x.0) (filter (λ (x : Path × Part). not (is_unchanged d x.0 old new)) (nodes_below l d new))
  unchanged l d old new f same =
      let ys = nodes_below l d new in
      ap (λ es. list_of_new_nodes l d es new f) same ∙ listed-same l d new f
      ∙ ap (map (λ (x : Path × Part). f x.0)) (sym (ap (λ es. filter (λ (x : Path × Part). not (is_unchanged d x.0 es new)) ys) same
      ∙ filter_none (λ (x : Path × Part). not (is_unchanged d x.0 new new)) ys (All-by_place (λ (x : Path × Part). not (is_unchanged d x.0 new new) ≡ false) ys (All-weaker (IsListed d new) (λ (x : Path × Part). not (is_unchanged d x.0 new new) ≡ false) (λ x is. ap not (is_unchanged-same d x.0 new is.1)) ys (nodes_below-IsListed l d new)))))

  -- the walk goes to each node that doesn't stay, and to no other
  pub listed-nodes : (l : ℕ) → Walks X l
  unfolding list_of_new_nodes nodes_below is_node under lower_nodes child_nodes
  listed-nodes zero d old new f some = elim (same_or_other old new) [
    | inl same ↦ unchanged zero d old new f same
    | inr other ↦ let is = differs-is old new some other in
        ap (λ b. cond b (f [] ∷ []) []) is.0 ∙ ap (λ b. map (λ (x : Path × Part). f x.0) (cond (not b) (([], new) ∷ []) [])) (sym is.1)
  ]
  listed-nodes (suc l) d old new f some = elim (same_or_other old new) [
    | inl same ↦ unchanged (suc l) d old new f same
    | inr other ↦ let is = differs-is old new some other in
        ap (λ b. cond b (f [] ∷ each_from 16 0 (λ n. list_of_new_nodes l (d + 1) (child_entries d n old) (child_entries d n new) (λ p. f (n ∷ p)))) []) is.0
        ∙ ap (λ xs. f [] ∷ xs) (children l d old new f (λ p. not (is_unchanged d p old new)) (listed-nodes l) (λ n p node. refl))
        ∙ ap (λ b. map (λ (x : Path × Part). f x.0) (cond (not b) (([], new) ∷ filter (λ (x : Path × Part). not (is_unchanged d x.0 old new)) (lower_nodes l d new)) (filter (λ (x : Path × Part). not (is_unchanged d x.0 old new)) (lower_nodes l d new)))) (sym is.1)
  ]

  -- the walk from the top gives what a landing writes
  pub with_root-fresh : (m m' : Map) (f : Path → X) → with_root (entries m) (entries m') f ≡ map (λ (x : Path × Part). f x.0) (fresh m m')
  unfolding with_root fresh nodes nodes_below is_fresh lower_nodes child_nodes
  with_root-fresh m m' f =
      ap (λ xs. f [] ∷ xs) (children 63 0 (entries m) (entries m') f (is_fresh (entries m) (entries m')) (listed-nodes 63) (λ n p node. ap (λ b. b && not (is_unchanged 0 (n ∷ p) (entries m) (entries m'))) node))
