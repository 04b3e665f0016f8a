-- The tree that items spell is the one whose items they are.
use Rattle.std.specs.Prelude.{◌≡◌, ℕ, zero, suc, ◌≤◌, List, [], ◌∷◌, ◌++◌, IsSome, Option, Some, None, option_map}
use Rattle.std.specs.Option.{option_and_then}
use Rattle.std.proofs.Common.{refl, sym, ap, ap₂, ◌∙◌, arith, append_assoc, subst}
use Rattle.std.proofs.lemmas.List.{append-nil}
use Rattle.std.proofs.lemmas.Option.{option_and_then_some, some_pair_parts, same_Some}
use Rattle.jf_multi.specs.declared.item.Item.{Item}
use Rattle.jf_multi.specs.declared.item.Item.TheVariants as item
use Rattle.jf_multi.specs.Trees.{Tree, Rest, End, Fork, preorder, tree_height, tree_root, first_tree, if_whole, tree_of}

-- what a mapped option came from
pub option_map-some : {A B : Type 0} (f : A → B) (o : Option A) (y : B) → option_map f o ≡ Some y → (x : A) × (o ≡ Some x) × (f x ≡ y)
option_map-some f None y h = absurd (cc)
option_map-some f (Some x) y h = (x, refl, same_Some (f x) y h)

-- the parts of a fork that items begin with
pub record ForkParts (n : ℕ) (items : List Item) (tree : Tree) (rest : List Item) : Type 0 where
  pub left : Tree
  pub right : Tree
  pub middle : List Item
  pub first : first_tree n items ≡ Some (left, middle)
  pub second : first_tree n middle ≡ Some (right, rest)
  pub fork : tree ≡ Fork left right

pub fork-parts : (n : ℕ) (items : List Item) (tree : Tree) (rest : List Item) → first_tree (suc n) (item.Fork ∷ items) ≡ Some (tree, rest) → ForkParts n items tree rest
unfolding first_tree
fork-parts n items tree rest h =
    option_and_then_some (λ (l : Tree × List Item). option_map (λ (r : Tree × List Item). (Fork l.0 r.0, r.1)) (first_tree n l.1)) (first_tree n items) (tree, rest) h (λ l e f.
    let r = option_map-some (λ (r : Tree × List Item). (Fork l.0 r.0, r.1)) (first_tree n l.1) (tree, rest) f in
    let both = r.2 in
    record {
      left = l.0;
      right = r.0.0;
      middle = l.1;
      first = e;
      second = r.1 ∙ ap (λ (t : List Item). Some (r.0.0, t)) (ap (λ (p : Tree × List Item). p.1) both);
      fork = sym (ap (λ (p : Tree × List Item). p.0) both);
    })

-- items begin with the items of the tree that they begin with
pub first_tree-preorder : (n : ℕ) (items : List Item) (tree : Tree) (rest : List Item) → first_tree n items ≡ Some (tree, rest) → (items ≡ preorder tree ++ rest) × (tree_height tree ≤ n)
unfolding first_tree preorder tree_height
first_tree-preorder n [] tree rest h = absurd (cc)
first_tree-preorder n (item.Rest hash ∷ items) tree rest h =
    let e = some_pair_parts (Rest hash) tree items rest h in
    (ap₂ (λ (t : Tree) (r : List Item). preorder t ++ r) e.0 e.1, rw (sym e.0) (omega arith))
first_tree-preorder n (item.End leaf ∷ items) tree rest h =
    let e = some_pair_parts (End leaf) tree items rest h in
    (ap₂ (λ (t : Tree) (r : List Item). preorder t ++ r) e.0 e.1, rw (sym e.0) (omega arith))
first_tree-preorder zero (item.Fork ∷ items) tree rest h = absurd (cc)
first_tree-preorder (suc n) (item.Fork ∷ items) tree rest h =
    let p = fork-parts n items tree rest h in
    let l = first_tree-preorder n items p.left p.middle p.first in
    let r = first_tree-preorder n p.middle p.right rest p.second in (
      ap (λ (is : List Item). item.Fork ∷ is) (l.0 ∙ ap (λ (is : List Item). preorder p.left ++ is) r.0 ∙ sym (append_assoc (preorder p.left) (preorder p.right) rest))
          ∙ ap (λ (t : Tree). preorder t ++ rest) (sym p.fork),
      rw p.fork (let a = l.1 in let b = r.1 in omega arith),
    )

-- the items of a low tree begin with it
pub preorder-first_tree : (n : ℕ) (tree : Tree) (rest : List Item) → tree_height tree ≤ n → first_tree n (preorder tree ++ rest) ≡ Some (tree, rest)
unfolding first_tree preorder tree_height
preorder-first_tree n (Rest hash) rest low = refl
preorder-first_tree n (End leaf) rest low = refl
preorder-first_tree zero (Fork left right) rest low = absurd (omega arith)
preorder-first_tree (suc n) (Fork left right) rest low =
    let l = preorder-first_tree n left (preorder right ++ rest) (omega arith) in
    let r = preorder-first_tree n right rest (omega arith) in
    ap (λ (is : List Item). first_tree (suc n) (item.Fork ∷ is)) (append_assoc (preorder left) (preorder right) rest)
    ∙ ap (option_and_then (λ (l : Tree × List Item). option_map (λ (r : Tree × List Item). (Fork l.0 r.0, r.1)) (first_tree n l.1))) l
    ∙ ap (option_map (λ (r : Tree × List Item). (Fork left r.0, r.1))) r

-- ---- all items
pub if_whole-some : (o : Option (Tree × List Item)) (tree : Tree) → if_whole o ≡ Some tree → o ≡ Some (tree, [])
if_whole-some None tree h = absurd (cc)
if_whole-some (Some (t, [])) tree h = ap (λ (u : Tree). Some (u, [])) (same_Some t tree h)
if_whole-some (Some (t, i ∷ is)) tree h = absurd (cc)

pub tree_of-first : (items : List Item) (tree : Tree) → tree_of items ≡ Some tree → first_tree 256 items ≡ Some (tree, [])
unfolding tree_of
tree_of-first items tree h = if_whole-some (first_tree 256 items) tree h

-- the tree of items has these items and at most 256 levels
pub tree_of-preorder : (items : List Item) (tree : Tree) → tree_of items ≡ Some tree → (items ≡ preorder tree) × (tree_height tree ≤ 256)
tree_of-preorder items tree h =
    let p = first_tree-preorder 256 items tree [] (tree_of-first items tree h) in
    (p.0 ∙ append-nil (preorder tree), p.1)

-- the items of a tree with at most 256 levels are those of no other
pub preorder-tree_of : (tree : Tree) → tree_height tree ≤ 256 → tree_of (preorder tree) ≡ Some tree
unfolding tree_of
preorder-tree_of tree low = ap (λ (is : List Item). if_whole (first_tree 256 is)) (sym (append-nil (preorder tree))) ∙ ap if_whole (preorder-first_tree 256 tree [] low)

if_whole-IsSome : (o : Option (Tree × List Item)) → IsSome (if_whole o) → IsSome o
if_whole-IsSome None s = s
if_whole-IsSome (Some x) s = refl

-- items whose root is known are one tree
pub tree_of-IsSome_root : (items : List Item) (top : List ℕ) → option_map tree_root (tree_of items) ≡ Some top → IsSome (tree_of items)
tree_of-IsSome_root items top is = subst IsSome (sym (option_map-some tree_root (tree_of items) top is).1) refl

-- items that are one tree begin with one
pub tree_of-IsSome : (items : List Item) → IsSome (tree_of items) → IsSome (first_tree 256 items)
unfolding tree_of
tree_of-IsSome items s = if_whole-IsSome (first_tree 256 items) s
