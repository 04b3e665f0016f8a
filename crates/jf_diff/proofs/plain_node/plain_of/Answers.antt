use Rattle.std.proofs.Common.{ap, ◌∙◌, arith, length}
use Rattle.jf_path.specs.declared.node.PlainNode.TheVariants as node
use Rattle.jf_diff.proofs.PlainNodes.{leaf_plain, inner_plain}
use Rattle.jf_diff.proofs.plain_node.plain_of.Goals as goal

pub returns-in_ok-value-in-Leaf : goal.returns-in_ok-value-in-Leaf
returns-in_ok-value-in-Leaf c = ap (λ v. node.Leaf c.in-Leaf.key.now v) c.in_ok-value-in-Leaf.ensures ∙ leaf_plain c.args.link.now _ _ _ c.in-Leaf.ensures.shows

pub returns-in_ok-children-in-Inner : goal.returns-in_ok-children-in-Inner
returns-in_ok-children-in-Inner c = ap (λ cs. node.Inner cs) c.in_ok-children-in-Inner.ensures ∙ inner_plain c.args.link.now (omega (arith, ap length c.in-Inner.ensures.shows.entries, c.in-Inner.ensures.shows.children.several))
