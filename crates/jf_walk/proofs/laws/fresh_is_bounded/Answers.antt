use Rattle.jf_walk.proofs.FreshBound.{length-fresh}
use Rattle.jf_walk.proofs.laws.fresh_is_bounded.Goals as goal

pub returns : goal.returns
returns c = length-fresh
