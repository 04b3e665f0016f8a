use Rattle.jf_walk.proofs.FreshCounts.{length-nodes}
use Rattle.jf_walk.proofs.laws.fresh_and_stale.Goals as goal

pub returns : goal.returns
returns c = length-nodes
