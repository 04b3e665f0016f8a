use Rattle.jf_history.proofs.OneRun.{one_run_is_alone}
use Rattle.jf_history.proofs.laws.one_run_is_alone.Goals as goal

pub returns : goal.returns
returns c = one_run_is_alone
