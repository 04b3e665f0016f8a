use Rattle.jf_history.proofs.OneSession.{one_session_is_alone}
use Rattle.jf_history.proofs.laws.one_session_is_alone.Goals as goal

pub returns : goal.returns
returns c = one_session_is_alone
