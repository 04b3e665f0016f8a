use Rattle.jf_history.proofs.Closed.{closed_tries}
use Rattle.jf_history.proofs.laws.closed_tries.Goals as goal

pub returns : goal.returns
returns c = closed_tries
