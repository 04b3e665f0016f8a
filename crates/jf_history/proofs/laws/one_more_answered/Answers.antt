use Rattle.jf_history.proofs.Steps.{one_more_answered}
use Rattle.jf_history.proofs.laws.one_more_answered.Goals as goal

pub returns : goal.returns
returns c = one_more_answered
