-- the bits so far say it of their places
use Rattle.std.proofs.Common.{◌≡◌, ◌<◌, ℕ, None, false, length, get_or}
use Rattle.jf_node.specs.BranchFacts.{is_leaf_child}
use Rattle.jf_node.proofs.branches.places_of_leaves.Given as goal

abbrev pub invariant-loop-n : goal.invariant-loop-n
invariant-loop-n l = (length l.leaves ≡ 16) × ((k : ℕ) → k < l.n → get_or l.leaves k false ≡ is_leaf_child (get_or l.children-inside.links k None))
