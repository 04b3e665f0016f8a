-- How many nodes there are after a landing: those of the new map and the stale ones are as many as those of the old map and the fresh ones.
use Rattle.std.proofs.Common.{◌≡◌, ℕ, zero, suc, ◌+◌, List, length, refl, arith, length-append, true, inl, inr, ◌∷◌, sym, ap, ◌∙◌, true≢false, cond, [], subst, map}
use Rattle.std.proofs.lemmas.List.{length-map}
use Rattle.std.specs.FinMap.{entries}
use Rattle.jf_path.proofs.FilterLaws.{filter_all}
use Rattle.jf_hash.specs.Slots.{Part}
use Rattle.jf_hash.specs.Maps.{Map}
use Rattle.jf_model.specs.Walk.{each_from, differs, list_of_new_nodes, with_root}
use Rattle.jf_model.specs.Nodes.{Path, is_node, nodes, nodes_below, fresh, stale}
use Rattle.jf_model.specs.ChildEntries.{child_entries}
use Rattle.jf_walk.proofs.SameParts.{differs-same, differs_or_same}
use Rattle.jf_walk.proofs.WalkLaws.{listed-gone}
use Rattle.jf_walk.proofs.NodeLists.{lower_nodes, child_nodes}
use Rattle.jf_walk.proofs.FreshLaws.{children, listed-nodes, with_root-fresh}

module _ {X : Type 0} where
  each_same : (count n : ℕ) (g h j k : ℕ → List X) → ((m : ℕ) → length (g m) + length (h m) ≡ length (j m) + length (k m)) → length (each_from count n g) + length (each_from count n h) ≡ length (each_from count n j) + length (each_from count n k)
  each_same zero n g h j k is = refl
  each_same (suc count) n g h j k is =
      omega (arith, is n, each_same count (n + 1) g h j k is, length-append (g n) (each_from count (n + 1) g), length-append (h n) (each_from count (n + 1) h), length-append (j n) (each_from count (n + 1) j), length-append (k n) (each_from count (n + 1) k))

apart : (e f : List ℕ × List ℕ) (es fs : Part) → differs (e ∷ es) (f ∷ fs) ≡ true → differs (f ∷ fs) (e ∷ es) ≡ true
apart e f es fs h = elim (differs_or_same (f ∷ fs) (e ∷ es) (omega arith)) [
  | inl differ ↦ differ
  | inr same ↦ absurd (true≢false (sym h ∙ ap (λ x. differs (e ∷ es) x) same ∙ differs-same (e ∷ es)))
]

module _ {X : Type 0} where
  length_zero : (d : ℕ) (old new : Part) (f : Path → X) → differs old new ≡ true → length (list_of_new_nodes zero d old new f) ≡ 1
  unfolding list_of_new_nodes
  length_zero d old new f is = ap (λ b. length (cond b (f [] ∷ []) [])) is

  length_suc : (l d : ℕ) (old new : Part) (f : Path → X) → differs old new ≡ true → length (list_of_new_nodes (suc l) d old new f) ≡ suc (length (each_from 16 0 (λ n. list_of_new_nodes l (d + 1) (child_entries d n old) (child_entries d n new) (λ p. f (n ∷ p)))))
  unfolding list_of_new_nodes
  length_suc l d old new f is = ap (λ b. length (cond b (f [] ∷ each_from 16 0 (λ n. list_of_new_nodes l (d + 1) (child_entries d n old) (child_entries d n new) (λ p. f (n ∷ p)))) [])) is

  -- below each node: the new nodes and the stale ones are as many as the old nodes and the fresh ones
  kept_step : (l d : ℕ) (old new : Part) (f : Path → X) → length (list_of_new_nodes l d [] new f) + length (list_of_new_nodes l d new old f) ≡ length (list_of_new_nodes l d [] old f) + length (list_of_new_nodes l d old new f)
  kept_step l d [] new f = omega (arith, ap length (listed-gone l d new f), ap length (listed-gone l d [] f))
  kept_step l d (e ∷ es) [] f = omega (arith, ap length (listed-gone l d (e ∷ es) f), ap length (listed-gone l d [] f))
  kept_step zero d (e ∷ es) (e' ∷ es') f = elim (differs_or_same (e ∷ es) (e' ∷ es') (omega arith)) [
    | inr same ↦ subst (λ n. length (list_of_new_nodes zero d [] n f) + length (list_of_new_nodes zero d n (e ∷ es) f) ≡ length (list_of_new_nodes zero d [] (e ∷ es) f) + length (list_of_new_nodes zero d (e ∷ es) n f)) same refl
    | inl differ ↦ omega (arith, length_zero d [] (e ∷ es) f refl, length_zero d [] (e' ∷ es') f refl, length_zero d (e ∷ es) (e' ∷ es') f differ, length_zero d (e' ∷ es') (e ∷ es) f (apart e e' es es' differ))
  ]
  kept_step (suc l) d (e ∷ es) (e' ∷ es') f = elim (differs_or_same (e ∷ es) (e' ∷ es') (omega arith)) [
    | inr same ↦ subst (λ n. length (list_of_new_nodes (suc l) d [] n f) + length (list_of_new_nodes (suc l) d n (e ∷ es) f) ≡ length (list_of_new_nodes (suc l) d [] (e ∷ es) f) + length (list_of_new_nodes (suc l) d (e ∷ es) n f)) same refl
    | inl differ ↦
        let a = e ∷ es in let b = e' ∷ es' in
        let sums = each_same 16 0 (λ n. list_of_new_nodes l (d + 1) [] (child_entries d n b) (λ p. f (n ∷ p))) (λ n. list_of_new_nodes l (d + 1) (child_entries d n b) (child_entries d n a) (λ p. f (n ∷ p))) (λ n. list_of_new_nodes l (d + 1) [] (child_entries d n a) (λ p. f (n ∷ p))) (λ n. list_of_new_nodes l (d + 1) (child_entries d n a) (child_entries d n b) (λ p. f (n ∷ p)))
        (λ m. kept_step l (d + 1) (child_entries d m a) (child_entries d m b) (λ p. f (m ∷ p))) in
        omega (arith, sums, length_suc l d [] a f refl, length_suc l d [] b f refl, length_suc l d a b f differ, length_suc l d b a f (apart e e' es es' differ))
  ]

  length_root : (old new : Part) (f : Path → X) → length (with_root old new f) ≡ suc (length (each_from 16 0 (λ n. list_of_new_nodes 63 1 (child_entries 0 n old) (child_entries 0 n new) (λ p. f (n ∷ p)))))
  unfolding with_root
  length_root old new f = refl

  kept_root : (old new : Part) (f : Path → X) → length (with_root [] new f) + length (with_root new old f) ≡ length (with_root [] old f) + length (with_root old new f)
  kept_root old new f =
      let sums = each_same 16 0 (λ n. list_of_new_nodes 63 1 [] (child_entries 0 n new) (λ p. f (n ∷ p))) (λ n. list_of_new_nodes 63 1 (child_entries 0 n new) (child_entries 0 n old) (λ p. f (n ∷ p))) (λ n. list_of_new_nodes 63 1 [] (child_entries 0 n old) (λ p. f (n ∷ p))) (λ n. list_of_new_nodes 63 1 (child_entries 0 n old) (child_entries 0 n new) (λ p. f (n ∷ p)))
      (λ m. kept_step 63 1 (child_entries 0 m old) (child_entries 0 m new) (λ p. f (m ∷ p))) in
      omega (arith, sums, length_root [] new f, length_root new old f, length_root [] old f, length_root old new f)

  -- over the empty map the walk lists all nodes
  pub with_root-nodes : (m : Map) (f : Path → X) → with_root [] (entries m) f ≡ map (λ (x : Path × Part). f x.0) (nodes m)
  unfolding with_root nodes nodes_below is_node lower_nodes child_nodes
  with_root-nodes m f =
      ap (λ xs. f [] ∷ xs) (children 63 0 [] (entries m) f (λ p. true) (listed-nodes 63) (λ n p node. refl) ∙ ap (map (λ (x : Path × Part). f x.0)) (filter_all (λ (x : Path × Part). true) (lower_nodes 63 0 (entries m)) (λ i d lt. refl)))

-- the new nodes and the stale ones are as many as the old nodes and the fresh ones
pub length-nodes : (m m' : Map) → length (nodes m') + length (stale m m') ≡ length (nodes m) + length (fresh m m')
length-nodes m m' =
    let f : Path → Path = λ p. p in
    let steps : (x : Path × Part) → Path = λ x. f x.0 in
    omega (
      arith,
      kept_root (entries m) (entries m') f,
      ap length (with_root-nodes m f),
      ap length (with_root-nodes m' f),
      ap length (with_root-fresh m m' f),
      ap length (with_root-fresh m' m f),
      length-map (nodes m) steps,
      length-map (nodes m') steps,
      length-map (fresh m m') steps,
      length-map (fresh m' m) steps,
    )
