use Rattle.jf_history.proofs.Closed.{closed_explains}
use Rattle.jf_history.proofs.laws.closed_explains.Goals as goal

pub returns : goal.returns
returns c = closed_explains
