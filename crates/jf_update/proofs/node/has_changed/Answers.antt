use Rattle.jf_update.proofs.NodeUpdateLaws.{told_change}
use Rattle.jf_update.proofs.node.has_changed.Goals as goal

pub returns : goal.returns
returns c = told_change c.args.changed c.count.result c.know.ensures c.count.ensures
