use Rattle.jf_walk.proofs.FreshOrder.{fresh-IsListed}
use Rattle.jf_walk.proofs.laws.fresh_are_nodes.Goals as goal

pub returns : goal.returns
returns c = fresh-IsListed
