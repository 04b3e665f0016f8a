use Rattle.jf_history.proofs.OneSession.{one_session_is_never_broken}
use Rattle.jf_history.proofs.laws.one_session_is_never_broken.Goals as goal

pub returns : goal.returns
returns c = one_session_is_never_broken
