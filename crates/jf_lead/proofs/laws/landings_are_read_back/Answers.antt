use Rattle.jf_lead.proofs.ReadBack.{landing_blocks-back}
use Rattle.jf_lead.proofs.laws.landings_are_read_back.Goals as goal

pub returns : goal.returns
returns c = landing_blocks-back
