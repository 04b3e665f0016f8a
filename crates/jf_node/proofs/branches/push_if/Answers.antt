use Rattle.std.proofs.Common.{◌∙◌}
use Rattle.jf_node.proofs.BranchLaws.{push_none, push_some}
use Rattle.jf_node.proofs.branches.push_if.Goals as goal

pub returns-in-None : goal.returns-in-None
returns-in-None c = push_none c.args.out.now.items c.args.child c.in-None.is

pub returns-in_ok-push-in-Some : goal.returns-in_ok-push-in-Some
returns-in_ok-push-in-Some c = c.in_ok-push-in-Some.ensures.items ∙ push_some c.args.out.now.items c.args.child c.in-Some.link c.in-Some.is
