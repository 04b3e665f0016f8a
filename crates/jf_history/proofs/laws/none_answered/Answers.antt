use Rattle.jf_history.proofs.Steps.{none_answered}
use Rattle.jf_history.proofs.laws.none_answered.Goals as goal

pub returns : goal.returns
returns c = none_answered
