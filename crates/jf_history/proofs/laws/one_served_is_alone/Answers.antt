use Rattle.jf_history.proofs.OneServed.{one_served_is_alone}
use Rattle.jf_history.proofs.laws.one_served_is_alone.Goals as goal

pub returns : goal.returns
returns c = one_served_is_alone
