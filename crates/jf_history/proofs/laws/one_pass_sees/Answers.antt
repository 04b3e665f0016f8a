use Rattle.jf_history.proofs.OnePass.{one_pass_sees}
use Rattle.jf_history.proofs.laws.one_pass_sees.Goals as goal

pub returns : goal.returns
returns c = one_pass_sees
