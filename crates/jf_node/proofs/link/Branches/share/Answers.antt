use Rattle.std.proofs.Common.{arith}
use Rattle.jf_node.proofs.ChildLaws.{same_links}
use Rattle.jf_node.proofs.link.Branches.share.Goals as goal

pub returns : goal.returns
returns c = same_links c.loop-n.copy c.args.self.now c.loop-n.invariant.0 c.know.ensures.long (λ k h. c.loop-n.invariant.1 k (omega (arith, h, c.loop-n-test.false)))
