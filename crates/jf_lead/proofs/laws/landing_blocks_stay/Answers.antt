use Rattle.jf_lead.proofs.Deciding.{ended_blocks-append}
use Rattle.jf_lead.proofs.laws.landing_blocks_stay.Goals as goal

pub returns : goal.returns
returns c = ended_blocks-append
