use Rattle.std.proofs.Common.{ap}
use Rattle.jf_spec.proofs.Nodes.{leaf_is}
use Rattle.jf_spec.proofs.node.Node.held_content.Goals as goal

pub returns-in-Leaf : goal.returns-in-Leaf
returns-in-Leaf c = (c.deref.result.now.value, ap (λ v. v.entries) (leaf_is c.args.self.now c.self.inside.depth c.self.inside.form c.in-Leaf.leaf c.deref.result.now c.self.view_is c.in-Leaf.is c.deref.ensures))
