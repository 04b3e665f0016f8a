-- The tree of a proof of many keys: its items in preorder, its root, and the proof of one key in it.
use Rattle.std.specs.Prelude.{ℕ, zero, suc, ◌+◌, if◌then◌else◌, List, [], ◌∷◌, ◌++◌, max, Option, Some, None, option_map}
use Rattle.std.specs.Option.{option_and_then}
use Rattle.jf_path.specs.Keys.{bit}
use Rattle.jf_hash.specs.Hashes.{N}
use Rattle.jf_hash.specs.Roots.{Leaf}
use Rattle.jf_evidence.specs.Proofs.{start_of, alone, under_root}
use Rattle.jf_evidence.specs.declared.proof.Proof.{Proof}
use Rattle.jf_multi.specs.declared.item.Item.{Item}
use Rattle.jf_multi.specs.declared.item.Item.TheVariants as item

-- a part of a map as a proof shows it: a rest by its hash alone, an end with at most one leaf, or a fork with its zero part and its one part
pub data Tree : Type 0 where
  Rest : List ℕ → Tree
  End : Option Leaf → Tree
  Fork : Tree → Tree → Tree

-- the items of a tree: a fork, the items of its zero part, and those of its one part
unfoldable pub preorder : Tree → List Item
preorder (Rest hash) = item.Rest hash ∷ []
preorder (End leaf) = item.End leaf ∷ []
preorder (Fork left right) = item.Fork ∷ preorder left ++ preorder right

-- the levels of a tree below its top
unfoldable pub tree_height : Tree → ℕ
tree_height (Rest hash) = 0
tree_height (End leaf) = 0
tree_height (Fork left right) = 1 + max (tree_height left) (tree_height right)

-- the hash at the top of a tree
unfoldable pub tree_root : Tree → List ℕ
tree_root (Rest hash) = hash
tree_root (End leaf) = start_of leaf
tree_root (Fork left right) = N (tree_root left) (tree_root right)

-- the proof of one key in a tree whose keys agree in d bits: at an end its leaf, at a fork the proof in the part that has the key, under the root of the other part; none if the key's path ends in a rest
unfoldable pub single_proof : ℕ → List ℕ → Tree → Option Proof
single_proof d key (Rest hash) = None
single_proof d key (End leaf) = Some (alone leaf)
single_proof d key (Fork left right) =
    if bit key d then option_map (λ p. under_root p (tree_root left)) (single_proof (d + 1) key right)
    else option_map (λ p. under_root p (tree_root right)) (single_proof (d + 1) key left)

-- ---- a tree from its items
-- the tree with at most n levels that items begin with, and the items after it
unfoldable pub first_tree : ℕ → List Item → Option (Tree × List Item)
first_tree n [] = None
first_tree n (item.Rest hash ∷ rest) = Some (Rest hash, rest)
first_tree n (item.End leaf ∷ rest) = Some (End leaf, rest)
first_tree zero (item.Fork ∷ rest) = None
first_tree (suc n) (item.Fork ∷ rest) =
    option_and_then (λ (left : Tree × List Item). option_map (λ (right : Tree × List Item). (Fork left.0 right.0, right.1)) (first_tree n left.1)) (first_tree n rest)

-- the tree, if nothing comes after it
abbrev pub if_whole : Option (Tree × List Item) → Option Tree
if_whole None = None
if_whole (Some (tree, [])) = Some tree
if_whole (Some (tree, i ∷ rest)) = None

-- the tree whose items these are, with its forks above depth 256
unfoldable pub tree_of : List Item → Option Tree
tree_of items = if_whole (first_tree 256 items)
