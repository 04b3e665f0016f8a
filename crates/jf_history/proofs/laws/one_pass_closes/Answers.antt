use Rattle.jf_history.proofs.OnePass.{one_pass_closes}
use Rattle.jf_history.proofs.laws.one_pass_closes.Goals as goal

pub returns : goal.returns
returns c = one_pass_closes
