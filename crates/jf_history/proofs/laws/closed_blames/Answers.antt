use Rattle.jf_history.proofs.Closed.{closed_blames}
use Rattle.jf_history.proofs.laws.closed_blames.Goals as goal

pub returns : goal.returns
returns c = closed_blames
