use Rattle.jf_session.proofs.LedLines.{led_quiet}
use Rattle.jf_session.proofs.leader.LeaderLineMachine.is_quiet.Goals as goal

pub returns : goal.returns
returns g c = λ quiet whole given new r took. led_quiet _ _ c.args.line.now whole r (c.is_quiet.ensures quiet) given took
