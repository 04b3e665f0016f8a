use Rattle.jf_answers.proofs.OneSession.{one_session}
use Rattle.jf_answers.proofs.laws.one_session_explains_itself.Goals as goal

pub returns : goal.returns
returns c = one_session
