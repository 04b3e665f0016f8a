use Rattle.jf_history.proofs.OneSession.{one_session_tries}
use Rattle.jf_history.proofs.laws.one_session_tries.Goals as goal

pub returns : goal.returns
returns c = one_session_tries
