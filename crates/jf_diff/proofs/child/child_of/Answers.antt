use Rattle.std.specs.Option.{option_copied}
use Rattle.jf_diff.proofs.Walks.{leaf_below, inner_below}
use Rattle.jf_diff.proofs.child.child_of.Goals as goal

pub returns-in-Leaf : goal.returns-in-Leaf
returns-in-Leaf c = leaf_below c.args.link.now c.args.n _ _ _ c.in-Leaf.ensures.shows

pub returns-in-Inner : goal.returns-in-Inner
returns-in-Inner c = inner_below c.args.link.now c.args.n c.in-Inner.children.now (option_copied c.get.result) c.in-Inner.ensures.shows c.know.ensures.links c.get.ensures
