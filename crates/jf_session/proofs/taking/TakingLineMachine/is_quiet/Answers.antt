use Rattle.jf_session.proofs.QuietSteps.{quiet_line}
use Rattle.jf_session.proofs.taking.TakingLineMachine.is_quiet.Goals as goal

pub returns : goal.returns
returns g c = λ quiet whole given new r took. quiet_line _ _ c.args.line.now whole r (c.is_quiet.ensures quiet) given took
