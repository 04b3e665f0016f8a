-- Where trees end in a list of items.
use Rattle.std.specs.Prelude.{◌≡◌, ℕ, zero, suc, ◌+◌, ◌-◌, ◌<◌, ◌≤◌, ◌⊎◌, List, [], ◌∷◌, length, drop, Option, Some, None}
use Rattle.std.specs.Option.{option_and_then}
use Rattle.std.proofs.Common.{refl, sym, ap, ◌∙◌, arith, length-drop, inl, inr, get_or}
use Rattle.std.proofs.lemmas.List.{at_drop_more, drop_all}
use Rattle.jf_hash.specs.Roots.{Leaf}
use Rattle.std.proofs.lemmas.Option.{same_Some}
use Rattle.jf_multi.specs.declared.item.Item.{Item}
use Rattle.jf_multi.specs.declared.item.Item.TheVariants as item
use Rattle.jf_multi.specs.Trees.{Tree, Rest, End, first_tree}
use Rattle.jf_multi.specs.Ends.{after_trees, place_before, end_place}
use Rattle.jf_multi.proofs.TreeLaws.{fork-parts}

-- no tree begins after the last item
no_tree : (n : ℕ) → 0 ≡ place_before n (after_trees 1 [])
unfolding after_trees
no_tree n = refl

-- after a fork come two trees
fork_first : (rest : List Item) → after_trees 1 (item.Fork ∷ rest) ≡ after_trees 2 rest
unfolding after_trees
fork_first rest = refl

-- after one tree more
pub after_trees-suc : (k : ℕ) (items : List Item) → after_trees (suc k) items ≡ option_and_then (after_trees 1) (after_trees k items)
unfolding after_trees
after_trees-suc zero items = refl
after_trees-suc (suc k) [] = refl
after_trees-suc (suc k) (item.Fork ∷ rest) = after_trees-suc (suc (suc k)) rest
after_trees-suc (suc k) (item.Rest hash ∷ rest) = after_trees-suc k rest
after_trees-suc (suc k) (item.End leaf ∷ rest) = after_trees-suc k rest

-- the items after a tree come after one tree
pub after_trees-first_tree : (n k : ℕ) (items : List Item) (tree : Tree) (rest : List Item) → first_tree n items ≡ Some (tree, rest) → after_trees (suc k) items ≡ after_trees k rest
unfolding after_trees first_tree
after_trees-first_tree n k [] tree rest h = absurd (cc)
after_trees-first_tree n k (item.Rest hash ∷ items) tree rest h = ap (λ (is : List Item). after_trees k is) (ap (λ (p : Tree × List Item). p.1) (same_Some (Rest hash, items) (tree, rest) h))
after_trees-first_tree n k (item.End leaf ∷ items) tree rest h = ap (λ (is : List Item). after_trees k is) (ap (λ (p : Tree × List Item). p.1) (same_Some (End leaf, items) (tree, rest) h))
after_trees-first_tree zero k (item.Fork ∷ items) tree rest h = absurd (cc)
after_trees-first_tree (suc n) k (item.Fork ∷ items) tree rest h =
    let p = fork-parts n items tree rest h in
    after_trees-first_tree n (suc k) items p.left p.middle p.first ∙ after_trees-first_tree n k p.middle p.right rest p.second

-- the end of a list
pub record IsEnd (items rest : List Item) : Type 0 where
  pub short : length rest ≤ length items
  pub drops : drop (length items - length rest) items ≡ rest

IsEnd-cons : (i : Item) (items rest : List Item) → IsEnd items rest → IsEnd (i ∷ items) rest
IsEnd-cons i items rest e = record {
  short = (let s = e.short in omega arith);
  drops =
      let s = e.short in
      let n : length (i ∷ items) - length rest ≡ suc (length items - length rest) = omega arith in
      ap (λ (n : ℕ). drop n (i ∷ items)) n ∙ e.drops;
}

IsEnd-itself : (items : List Item) → IsEnd items items
IsEnd-itself items = record { short = omega arith; drops = (let n : length items - length items ≡ 0 = omega arith in ap (λ (n : ℕ). drop n items) n) }

pub after_trees-IsEnd : (k : ℕ) (items rest : List Item) → after_trees k items ≡ Some rest → IsEnd items rest
unfolding after_trees
after_trees-IsEnd zero items rest h = rw (sym (same_Some items rest h)) (IsEnd-itself items)
after_trees-IsEnd (suc k) [] rest h = absurd (cc)
after_trees-IsEnd (suc k) (item.Fork ∷ items) rest h = IsEnd-cons item.Fork items rest (after_trees-IsEnd (suc (suc k)) items rest h)
after_trees-IsEnd (suc k) (item.Rest hash ∷ items) rest h = IsEnd-cons (item.Rest hash) items rest (after_trees-IsEnd k items rest h)
after_trees-IsEnd (suc k) (item.End leaf ∷ items) rest h = IsEnd-cons (item.End leaf) items rest (after_trees-IsEnd k items rest h)

-- the end of what is left after a front is the end of the whole
pub IsEnd-drop : (at : ℕ) (items rest : List Item) → IsEnd (drop at items) rest → IsEnd items rest
IsEnd-drop zero items rest e = e
IsEnd-drop (suc at) [] rest e = e
IsEnd-drop (suc at) (i ∷ items) rest e = IsEnd-cons i items rest (IsEnd-drop at items rest e)

-- ---- the place after a tree, by its first item
pub drop-item : (at : ℕ) (items : List Item) (x : Item) → at < length items → drop at items ≡ get_or items at x ∷ drop (at + 1) items
drop-item at items x lt = at_drop_more (λ (is : List Item). is) items at x lt

after_leaf : (at : ℕ) (items : List Item) → at < length items → at + 1 ≡ place_before (length items) (Some (drop (at + 1) items))
after_leaf at items lt = omega (arith, length-drop (at + 1) items)

pub place-rest : (at : ℕ) (items : List Item) (x : Item) (hash : List ℕ) → at < length items → get_or items at x ≡ item.Rest hash → at + 1 ≡ end_place items at
unfolding after_trees
place-rest at items x hash lt is =
    after_leaf at items lt ∙ sym (ap (λ (is : List Item). place_before (length items) (after_trees 1 is)) (drop-item at items x lt ∙ ap (λ (i : Item). i ∷ drop (at + 1) items) is))

pub place-end : (at : ℕ) (items : List Item) (x : Item) (leaf : Option Leaf) → at < length items → get_or items at x ≡ item.End leaf → at + 1 ≡ end_place items at
unfolding after_trees
place-end at items x leaf lt is =
    after_leaf at items lt ∙ sym (ap (λ (is : List Item). place_before (length items) (after_trees 1 is)) (drop-item at items x lt ∙ ap (λ (i : Item). i ∷ drop (at + 1) items) is))

fork_place : (at : ℕ) (items : List Item) (x : Item) → at < length items → get_or items at x ≡ item.Fork → end_place items at ≡ place_before (length items) (option_and_then (after_trees 1) (after_trees 1 (drop (at + 1) items)))
fork_place at items x lt is =
    ap (λ (is : List Item). place_before (length items) (after_trees 1 is)) (drop-item at items x lt ∙ ap (λ (i : Item). i ∷ drop (at + 1) items) is)
    ∙ ap (place_before (length items)) (two (drop (at + 1) items))
  where
    two : (rest : List Item) → after_trees 1 (item.Fork ∷ rest) ≡ option_and_then (after_trees 1) (after_trees 1 rest)
    two rest = fork_first rest ∙ after_trees-suc 1 rest

-- where the one part of a fork begins, and what is after it
record IsOnes (at : ℕ) (items : List Item) (middle : List Item) : Type 0 where
  place : end_place items (at + 1) ≡ length items - length middle
  later : at < length items - length middle
  drops : drop (length items - length middle) items ≡ middle

ones_at : (at : ℕ) (items middle : List Item) → at < length items → after_trees 1 (drop (at + 1) items) ≡ Some middle → IsOnes at items middle
ones_at at items middle lt is =
    let e = after_trees-IsEnd 1 (drop (at + 1) items) middle is in
    let whole = IsEnd-drop (at + 1) items middle e in
    record {
      place = ap (place_before (length items)) is;
      later = (let s = e.short in omega (arith, length-drop (at + 1) items));
      drops = whole.drops;
    }

pub place-no_zeros : (at : ℕ) (items : List Item) (x : Item) → at < length items → get_or items at x ≡ item.Fork → at + 1 ≡ length items → 0 ≡ end_place items at
unfolding after_trees
place-no_zeros at items x lt is last =
    sym (fork_place at items x lt is ∙ ap (λ (is : List Item). place_before (length items) (option_and_then (after_trees 1) (after_trees 1 is))) (ap (λ (n : ℕ). drop n items) last ∙ drop_all (length items) items (omega arith)))

pub place-no_ones : (at : ℕ) (items : List Item) (x : Item) → at < length items → get_or items at x ≡ item.Fork → (end_place items (at + 1) ≡ 0) ⊎ (end_place items (at + 1) ≡ length items) → 0 ≡ end_place items at
place-no_ones at items x lt is none =
    elim (after_trees 1 (drop (at + 1) items)) as (λ o. after_trees 1 (drop (at + 1) items) ≡ o → 0 ≡ place_before (length items) (option_and_then (after_trees 1) o)) [
      | None ↦ λ e. refl
      | Some middle ↦ λ e. nothing_left middle (ones_at at items middle lt e)
    ] refl
    ∙ sym (fork_place at items x lt is)
  where
    empty_end : (middle : List Item) → length middle ≡ 0 → 0 ≡ place_before (length items) (after_trees 1 middle)
    empty_end [] e = no_tree (length items)
    empty_end (i ∷ middle) e = absurd (omega arith)

    nothing_left : (middle : List Item) → IsOnes at items middle → 0 ≡ place_before (length items) (option_and_then (after_trees 1) (Some middle))
    nothing_left middle ones =
        let place = ones.place in
        let later = ones.later in
        let short = ap length ones.drops in
        elim none [
          | inl first ↦ absurd (omega arith)
          | inr all ↦ empty_end middle (omega (arith, length-drop (length items - length middle) items))
        ]

pub place-ones : (at : ℕ) (items : List Item) (x : Item) → at < length items → get_or items at x ≡ item.Fork → (end_place items (at + 1) ≡ 0 → ⊥) → end_place items (end_place items (at + 1)) ≡ end_place items at
place-ones at items x lt is some =
    elim (after_trees 1 (drop (at + 1) items)) as (λ o. after_trees 1 (drop (at + 1) items) ≡ o → end_place items (end_place items (at + 1)) ≡ place_before (length items) (option_and_then (after_trees 1) o)) [
      | None ↦ λ e. absurd (some (ap (place_before (length items)) e))
      | Some middle ↦ λ e.
          let ones = ones_at at items middle lt e in
          ap (end_place items) ones.place ∙ ap (λ (is : List Item). place_before (length items) (after_trees 1 is)) ones.drops
    ] refl
    ∙ sym (fork_place at items x lt is)

-- the one part begins after the fork
pub place-later : (at : ℕ) (items : List Item) → at < length items → (end_place items (at + 1) ≡ 0 → ⊥) → (at < end_place items (at + 1)) × (end_place items (at + 1) ≤ length items)
place-later at items lt some =
    elim (after_trees 1 (drop (at + 1) items)) as (λ o. after_trees 1 (drop (at + 1) items) ≡ o → (at < place_before (length items) o) × (place_before (length items) o ≤ length items)) [
      | None ↦ λ e. absurd (some (ap (place_before (length items)) e))
      | Some middle ↦ λ e. (let later = (ones_at at items middle lt e).later in omega arith, omega arith)
    ] refl
