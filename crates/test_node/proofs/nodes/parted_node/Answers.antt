use Rattle.std.proofs.Common.{[], ◌∷◌, sym, subst}
use Rattle.jf_node.specs.LinkFacts.{BeginAlike}
use Rattle.test_node.proofs.TwoChildren.{two_alike}
use Rattle.test_node.proofs.nodes.parted_node.Goals as goal

pub inner-requires-clause-alike : goal.inner-requires-clause-alike
inner-requires-clause-alike c =
    subst (BeginAlike c.args.depth) (sym c.in_ok-children.ensures.union) (two_alike c.args.depth c.args.low.now c.args.high.now (97 ∷ []) (98 ∷ []) c.requires.alike)
