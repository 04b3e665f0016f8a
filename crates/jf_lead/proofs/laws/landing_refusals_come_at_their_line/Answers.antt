use Rattle.jf_lead.proofs.Deciding.{stage_refusal-decided}
use Rattle.jf_lead.proofs.laws.landing_refusals_come_at_their_line.Goals as goal

pub returns : goal.returns
returns c = stage_refusal-decided
