-- Laws on the walk over two maps that lists the nodes of the new one that the old one doesn't have, in the order of their paths.
use Rattle.std.specs.Prelude.{ℕ, ◌+◌, ◌-◌, List, ◌∷◌, []}
use Rattle.std.proofs.Common.{◌≡◌, zero, suc, cond, ap, refl, ◌++◌, ◌∙◌, sym, arith, append_assoc, append-nil, ◌<◌, true, inl, inr, ◌⊎◌, length, add-one, zero-add, ◌≤◌}
use Rattle.std.specs.List.{flat_map}
use Rattle.jf_hash.specs.Slots.{Part, all_nibbles}
use Rattle.jf_model.specs.Nodes.{Path}
use Rattle.jf_model.specs.ChildEntries.{child_entries}
use Rattle.jf_model.specs.Walk.{list_of_new_nodes, each_from, differs, with_root}
use Rattle.jf_walk.proofs.SameParts.{differs-same, differs_or_same}
use Rattle.jf_walk.proofs.ChildEntryLaws.{child_entries-few}

-- the list of the child at nibble n of a node
unfoldable pub child_list : {X : Type 0} → ℕ → ℕ → Part → Part → (Path → X) → List X
child_list depth n old new f = list_of_new_nodes (64 - (depth + 1)) (depth + 1) (child_entries depth n old) (child_entries depth n new) (λ path. f (n ∷ path))

-- the list of a node that differs, as far as its first n children
unfoldable pub listed_to : {X : Type 0} → ℕ → ℕ → Part → Part → (Path → X) → List X
listed_to depth n old new f = f [] ∷ each_from n 0 (λ m. child_list depth m old new f)

module _ {X : Type 0} where
  -- nothing is listed if the parts are the same
  pub listed-same : (l d : ℕ) (es : Part) (f : Path → X) → list_of_new_nodes l d es es f ≡ []
  unfolding list_of_new_nodes
  listed-same zero d es f = ap (λ b. cond b (f [] ∷ []) []) (differs-same es)
  listed-same (suc l) d es f = ap (λ b. cond b (f [] ∷ each_from 16 0 (λ n. list_of_new_nodes l (d + 1) (child_entries d n es) (child_entries d n es) (λ p. f (n ∷ p)))) []) (differs-same es)

  -- nothing is listed if the new part has no node
  pub listed-gone : (l d : ℕ) (es : Part) (f : Path → X) → list_of_new_nodes l d es [] f ≡ []
  unfolding list_of_new_nodes
  listed-gone zero d es f = refl
  listed-gone (suc l) d es f = refl

  -- empty lists joined are an empty list
  pub each-nil : (count n : ℕ) (g : ℕ → List X) → ((m : ℕ) → g m ≡ []) → each_from count n g ≡ []
  each-nil zero n g h = refl
  each-nil (suc count) n g h = ap (λ t. t ++ each_from count (n + 1) g) (h n) ∙ each-nil count (n + 1) g h

  -- one more list is appended to the others
  pub each_push : (count n : ℕ) (g : ℕ → List X) → each_from (suc count) n g ≡ each_from count n g ++ g (n + count)
  each_push zero n g = append-nil (g n) ∙ ap g (let e : n ≡ n + 0 = omega arith in e)
  each_push (suc count) n g =
      ap (λ t. g n ++ t) (each_push count (n + 1) g) ∙ sym (append_assoc (g n) (each_from count (n + 1) g) (g ((n + 1) + count)))
      ∙ ap (λ m. (g n ++ each_from count (n + 1) g) ++ g m) (let e : (n + 1) + count ≡ n + suc count = omega arith in e)

  -- sixteen lists from the first nibble on are those of all nibbles
  pub each_from-flat_map : (g : ℕ → List X) → each_from 16 0 g ≡ flat_map g all_nibbles
  each_from-flat_map g = refl

  -- a node that differs is listed, and then its children, all sixteen
  pub listed-node : (d : ℕ) (old new : Part) (f : Path → X) → differs old new ≡ true → (d < 64) ⊎ (length new < 2) → list_of_new_nodes (64 - d) d old new f ≡ listed_to d 16 old new f
  unfolding list_of_new_nodes listed_to child_list
  listed-node d old new f differ (inl deep) =
      ap (λ l. list_of_new_nodes l d old new f) (let e : 64 - d ≡ suc (64 - (d + 1)) = omega arith in e)
      ∙ ap (λ b. cond b (f [] ∷ each_from 16 0 (λ n. list_of_new_nodes (64 - (d + 1)) (d + 1) (child_entries d n old) (child_entries d n new) (λ p. f (n ∷ p)))) []) differ
  listed-node d old new f differ (inr few) = alone (64 - d) ∙ ap (λ t. f [] ∷ t) (sym (each-nil 16 0 _ (gone (64 - (d + 1)))))
    where
      gone : (l n : ℕ) → list_of_new_nodes l (d + 1) (child_entries d n old) (child_entries d n new) (λ p. f (n ∷ p)) ≡ []
      gone l n = ap (λ k. list_of_new_nodes l (d + 1) (child_entries d n old) k (λ p. f (n ∷ p))) (child_entries-few d n new few) ∙ listed-gone l (d + 1) (child_entries d n old) (λ p. f (n ∷ p))

      alone : (l : ℕ) → list_of_new_nodes l d old new f ≡ f [] ∷ []
      alone zero = ap (λ b. cond b (f [] ∷ []) []) differ
      alone (suc l) = ap (λ b. cond b (f [] ∷ each_from 16 0 (λ n. list_of_new_nodes l (d + 1) (child_entries d n old) (child_entries d n new) (λ p. f (n ∷ p)))) []) differ ∙ ap (λ t. f [] ∷ t) (each-nil 16 0 _ (gone l))

  -- before its first child a node is listed itself
  pub listed_to-none : (d : ℕ) (old new : Part) (f : Path → X) → listed_to d 0 old new f ≡ f [] ∷ []
  unfolding listed_to
  listed_to-none d old new f = refl

  listed_to-more : (d n : ℕ) (old new : Part) (f : Path → X) → listed_to d (n + 1) old new f ≡ listed_to d n old new f ++ child_list d n old new f
  unfolding listed_to
  listed_to-more d n old new f =
      let g : ℕ → List X = λ m. child_list d m old new f in
      ap (λ k. f [] ∷ each_from k 0 g) (add-one n) ∙ ap (λ t. f [] ∷ t) (each_push n 0 g) ∙ ap (λ m. f [] ∷ (each_from n 0 g ++ g m)) (zero-add n)

  -- a nibble without a child adds nothing
  pub listed_to-past : (d n : ℕ) (old new : Part) (f : Path → X) → child_entries d n new ≡ [] → listed_to d (n + 1) old new f ≡ listed_to d n old new f
  unfolding child_list
  listed_to-past d n old new f none =
      listed_to-more d n old new f ∙ ap (λ k. listed_to d n old new f ++ list_of_new_nodes (64 - (d + 1)) (d + 1) (child_entries d n old) k (λ p. f (n ∷ p))) none
      ∙ ap (λ t. listed_to d n old new f ++ t) (listed-gone (64 - (d + 1)) (d + 1) (child_entries d n old) (λ p. f (n ∷ p))) ∙ append-nil (listed_to d n old new f)

  -- a child adds its list at the end
  pub listed_to-child : (d n e : ℕ) (old old' new new' : Part) (f g : Path → X) (start out more : List X) → out ≡ start ++ listed_to d n old new f → e ≡ d + 1 → old' ≡ child_entries d n old → new' ≡ child_entries d n new → ((p : Path) → g p ≡ f (n ∷ p))
      → more ≡ out ++ list_of_new_nodes (64 - e) e old' new' g → more ≡ start ++ listed_to d (n + 1) old new f
  unfolding child_list
  listed_to-child d n e old old' new new' f g start out more is at was now same made =
      let fs : g ≡ (λ p. f (n ∷ p)) = λ i p. same p i in
      made ∙ ap (λ k. out ++ list_of_new_nodes (64 - k) k old' new' g) at ∙ ap (λ a. out ++ list_of_new_nodes (64 - (d + 1)) (d + 1) a new' g) was ∙ ap (λ b. out ++ list_of_new_nodes (64 - (d + 1)) (d + 1) (child_entries d n old) b g) now
      ∙ ap (λ h. out ++ list_of_new_nodes (64 - (d + 1)) (d + 1) (child_entries d n old) (child_entries d n new) h) fs
      ∙ ap (λ t. t ++ child_list d n old new f) is ∙ append_assoc start (listed_to d n old new f) (child_list d n old new f) ∙ ap (λ t. start ++ t) (sym (listed_to-more d n old new f))

  -- if the parts differ, the list of the top is the walk from the top
  pub listed-with_root : (old new : Part) (f : Path → X) → differs old new ≡ true → list_of_new_nodes 64 0 old new f ≡ with_root old new f
  unfolding with_root listed_to child_list
  listed-with_root old new f differ = listed-node 0 old new f differ (inl (omega arith))

  -- if the new map has no entry, only the top is listed
  pub with_root-gone : (old : Part) (f : Path → X) → with_root old [] f ≡ f [] ∷ []
  unfolding with_root
  with_root-gone old f = ap (λ t. f [] ∷ t) (each-nil 16 0 (λ n. list_of_new_nodes 63 1 (child_entries 0 n old) [] (λ p. f (n ∷ p))) (λ n. listed-gone 63 1 (child_entries 0 n old) (λ p. f (n ∷ p))))

  -- if the two maps are the same, only the top is listed
  pub with_root-same : (es : Part) (f : Path → X) → with_root es es f ≡ f [] ∷ []
  unfolding with_root
  with_root-same es f = ap (λ t. f [] ∷ t) (each-nil 16 0 (λ n. list_of_new_nodes 63 1 (child_entries 0 n es) (child_entries 0 n es) (λ p. f (n ∷ p))) (λ n. listed-same 63 1 (child_entries 0 n es) (λ p. f (n ∷ p))))
