use Rattle.std.proofs.Common.{◌∙◌, ap, sym, arith, get_or, None}
use Rattle.jf_node.specs.BranchFacts.{is_leaf_child}
use Rattle.jf_node.proofs.BranchLaws.{same_bits}
use Rattle.jf_node.proofs.branches.places_of_leaves.Goals as goal

pub returns : goal.returns
returns c =
    same_bits is_leaf_child c.loop-n.leaves c.args.children.now (c.loop-n.invariant.0 ∙ sym c.know.ensures.long) (λ k lt.
    c.loop-n.invariant.1 k (omega (arith, lt, c.know.ensures.long, c.loop-n-test.false)) ∙ ap (λ xs. is_leaf_child (get_or xs k None)) c.children.view_is)
