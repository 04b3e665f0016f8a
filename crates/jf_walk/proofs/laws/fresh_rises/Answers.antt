use Rattle.jf_walk.proofs.FreshOrder.{sorted-fresh}
use Rattle.jf_walk.proofs.laws.fresh_rises.Goals as goal

pub returns : goal.returns
returns c = sorted-fresh
