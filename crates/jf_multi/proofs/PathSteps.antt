-- A step down a key's path in a list of items.
use Rattle.std.specs.Prelude.{◌≡◌, ℕ, zero, suc, ◌+◌, ◌-◌, ◌<◌, ◌≤◌, true, false, cond, IsSome, List, ◌∷◌, length, drop, slice_index, Option, Some, None}
use Rattle.std.proofs.Common.{refl, sym, ap, ap₂, ◌∙◌, arith, subst, get_or, inl, inr}
use Rattle.std.proofs.lemmas.Bool.{cases_lt}
use Rattle.std.proofs.lemmas.List.{drop_all}
use Rattle.jf_path.specs.Keys.{bit}
use Rattle.jf_hash.specs.Roots.{Leaf}
use Rattle.jf_multi.specs.declared.item.Item.{Item}
use Rattle.jf_multi.specs.declared.item.Item.TheVariants as item
use Rattle.jf_multi.specs.Trees.{Tree, first_tree}
use Rattle.jf_multi.specs.Ends.{AreEnds, after_trees, place_before, end_in, end_in_first}
use Rattle.jf_multi.proofs.TreeLaws.{fork-parts}
use Rattle.jf_multi.proofs.PlaceLaws.{drop-item, after_trees-first_tree, after_trees-IsEnd, IsEnd-drop}

some_of : {X : Type 0} (o : Option X) → IsSome o → (x : X) × (o ≡ Some x)
some_of None s = absurd (cc)
some_of (Some x) s = (x, refl)

no_items : (n at : ℕ) (items : List Item) → length items ≤ at → first_tree n (drop at items) ≡ None
unfolding first_tree
no_items n at items le = ap (first_tree n) (drop_all at items le)

-- a tree begins within the list
pub path-within : (n at : ℕ) (items : List Item) → IsSome (first_tree n (drop at items)) → at < length items
path-within n at items some =
    let found = some_of (first_tree n (drop at items)) some in
    elim (cases_lt at (length items)) [
      | inl lt ↦ lt
      | inr le ↦ absurd (let none = no_items n at items le in let is = found.1 in cc)
    ]

at_item : (at : ℕ) (items : List Item) (x i : Item) → at < length items → get_or items at x ≡ i → drop at items ≡ i ∷ drop (at + 1) items
at_item at items x i lt is = drop-item at items x lt ∙ ap (λ (i : Item). i ∷ drop (at + 1) items) is

pub path-rest : (n at d : ℕ) (key : List ℕ) (items : List Item) (x : Item) (hash : List ℕ) → at < length items → get_or items at x ≡ item.Rest hash → None ≡ end_in_first d key (first_tree n (drop at items))
unfolding first_tree end_in
path-rest n at d key items x hash lt is = sym (ap (λ (is : List Item). end_in_first d key (first_tree n is)) (at_item at items x (item.Rest hash) lt is))

pub path-end : (n at d : ℕ) (key : List ℕ) (items : List Item) (x : Item) (leaf : Option Leaf) → at < length items → get_or items at x ≡ item.End leaf → Some (record { leaf = leaf; depth = d }) ≡ end_in_first d key (first_tree n (drop at items))
unfolding first_tree end_in
path-end n at d key items x leaf lt is = sym (ap (λ (is : List Item). end_in_first d key (first_tree n is)) (at_item at items x (item.End leaf) lt is))

-- both ways down from a fork at a place, at depth d
pub record IsFork (at d : ℕ) (key : List ℕ) (items : List Item) (ends : List ℕ) : Type 0 where
  pub deep : d < 256
  pub zeros : IsSome (first_tree (256 - (d + 1)) (drop (at + 1) items))
  pub ones : IsSome (first_tree (256 - (d + 1)) (drop (slice_index ends (at + 1)) items))
  pub path : end_in_first d key (first_tree (256 - d) (drop at items))
      ≡ cond (bit key d) (end_in_first (d + 1) key (first_tree (256 - (d + 1)) (drop (slice_index ends (at + 1)) items))) (end_in_first (d + 1) key (first_tree (256 - (d + 1)) (drop (at + 1) items)))

after_no_tree : (middle : List Item) → after_trees 0 middle ≡ Some middle
unfolding after_trees
after_no_tree middle = refl

shallow : (n : ℕ) (rest : List Item) (x : Tree × List Item) → first_tree n (item.Fork ∷ rest) ≡ Some x → 1 ≤ n
unfolding first_tree
shallow zero rest x e = absurd (cc)
shallow (suc n) rest x e = omega arith

-- with the fork and the items after it told
fork_at : (at d : ℕ) (key : List ℕ) (items rest : List Item) (ends : List ℕ) (found : Tree × List Item) → AreEnds items ends → rest ≡ drop (at + 1) items → first_tree (256 - d) (drop at items) ≡ Some found
    → first_tree (256 - d) (item.Fork ∷ rest) ≡ Some found → IsFork at d key items ends
unfolding end_in
fork_at at d key items rest ends found are later whole here =
    let more = shallow (256 - d) rest found here in
    let n : 256 - d ≡ suc (256 - (d + 1)) = omega arith in
    let p = fork-parts (256 - (d + 1)) rest found.0 found.1 (ap (λ (n : ℕ). first_tree n (item.Fork ∷ rest)) (sym n) ∙ here) in
    let left : first_tree (256 - (d + 1)) (drop (at + 1) items) ≡ Some (p.left, p.middle) = ap (first_tree (256 - (d + 1))) (sym later) ∙ p.first in
    let zeros : IsSome (first_tree (256 - (d + 1)) (drop (at + 1) items)) = subst IsSome (sym left) refl in
    let after : after_trees 1 (drop (at + 1) items) ≡ Some p.middle = after_trees-first_tree (256 - (d + 1)) 0 (drop (at + 1) items) p.left p.middle left ∙ after_no_tree p.middle in
    let place : slice_index ends (at + 1) ≡ length items - length p.middle = are.each (at + 1) (path-within (256 - (d + 1)) (at + 1) items zeros) ∙ ap (place_before (length items)) after in
    let drops : drop (slice_index ends (at + 1)) items ≡ p.middle = ap (λ (n : ℕ). drop n items) place ∙ (IsEnd-drop (at + 1) items p.middle (after_trees-IsEnd 1 (drop (at + 1) items) p.middle after)).drops in
    let right : first_tree (256 - (d + 1)) (drop (slice_index ends (at + 1)) items) ≡ Some (p.right, found.1) = ap (first_tree (256 - (d + 1))) drops ∙ p.second in
    record {
      deep = omega arith;
      zeros = zeros;
      ones = subst IsSome (sym right) refl;
      path =
          ap (end_in_first d key) whole
          ∙ ap (end_in d key) p.fork
          ∙ ap₂ (λ (o z : Option (Tree × List Item)). cond (bit key d) (end_in_first (d + 1) key o) (end_in_first (d + 1) key z)) (sym right) (sym left);
    }

pub path-fork : (at d : ℕ) (key : List ℕ) (items : List Item) (ends : List ℕ) (x : Item) → AreEnds items ends → at < length items → get_or items at x ≡ item.Fork → IsSome (first_tree (256 - d) (drop at items)) → IsFork at d key items ends
path-fork at d key items ends x are lt is some =
    let found = some_of (first_tree (256 - d) (drop at items)) some in
    fork_at at d key items (drop (at + 1) items) ends found.0 are refl found.1 (ap (first_tree (256 - d)) (sym (at_item at items x item.Fork lt is)) ∙ found.1)

-- the way down by bit 1, and that by bit 0
pub path-ones : (at d : ℕ) (key : List ℕ) (items : List Item) (ends : List ℕ) → IsFork at d key items ends → bit key d ≡ true
    → end_in_first d key (first_tree (256 - d) (drop at items)) ≡ end_in_first (d + 1) key (first_tree (256 - (d + 1)) (drop (slice_index ends (at + 1)) items))
path-ones at d key items ends f is =
    f.path ∙ ap (λ b. cond b (end_in_first (d + 1) key (first_tree (256 - (d + 1)) (drop (slice_index ends (at + 1)) items))) (end_in_first (d + 1) key (first_tree (256 - (d + 1)) (drop (at + 1) items)))) is

pub path-zeros : (at d : ℕ) (key : List ℕ) (items : List Item) (ends : List ℕ) → IsFork at d key items ends → bit key d ≡ false
    → end_in_first d key (first_tree (256 - d) (drop at items)) ≡ end_in_first (d + 1) key (first_tree (256 - (d + 1)) (drop (at + 1) items))
path-zeros at d key items ends f is =
    f.path ∙ ap (λ b. cond b (end_in_first (d + 1) key (first_tree (256 - (d + 1)) (drop (slice_index ends (at + 1)) items))) (end_in_first (d + 1) key (first_tree (256 - (d + 1)) (drop (at + 1) items)))) is
