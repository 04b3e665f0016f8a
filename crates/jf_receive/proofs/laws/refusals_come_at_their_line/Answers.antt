use Rattle.jf_receive.proofs.Deciding.{refusals-decided}
use Rattle.jf_receive.proofs.laws.refusals_come_at_their_line.Goals as goal

pub returns : goal.returns
returns c = refusals-decided
