use Rattle.jf_follow.proofs.Agreement.{inputs-agree}
use Rattle.jf_follow.proofs.laws.inputs_agree.Goals as goal

pub returns : goal.returns
returns c = inputs-agree
