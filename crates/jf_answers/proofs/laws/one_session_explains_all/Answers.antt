use Rattle.jf_answers.proofs.OneSession.{one_session_all}
use Rattle.jf_answers.proofs.laws.one_session_explains_all.Goals as goal

pub returns : goal.returns
returns c = one_session_all
