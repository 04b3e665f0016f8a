use Rattle.jf_receive.proofs.Deciding.{refusals-stay}
use Rattle.jf_receive.proofs.laws.refusals_stay.Goals as goal

pub returns : goal.returns
returns c = refusals-stay
