use Rattle.jf_history.proofs.Later.{answers_stay}
use Rattle.jf_history.proofs.laws.answers_stay.Goals as goal

pub returns : goal.returns
returns c = answers_stay
