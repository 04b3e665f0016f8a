use Rattle.jf_pair.proofs.PairLaws.{in_step_side}
use Rattle.jf_pair.proofs.laws.live_side_is_the_pairs.Goals as goal

pub returns : goal.returns
returns c = in_step_side
