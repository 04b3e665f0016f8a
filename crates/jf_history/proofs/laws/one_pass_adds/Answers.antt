use Rattle.jf_history.proofs.OnePass.{one_pass_adds}
use Rattle.jf_history.proofs.laws.one_pass_adds.Goals as goal

pub returns : goal.returns
returns c = one_pass_adds
