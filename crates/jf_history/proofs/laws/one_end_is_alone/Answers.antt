use Rattle.jf_history.proofs.OneEnd.{one_end_is_alone}
use Rattle.jf_history.proofs.laws.one_end_is_alone.Goals as goal

pub returns : goal.returns
returns c = one_end_is_alone
