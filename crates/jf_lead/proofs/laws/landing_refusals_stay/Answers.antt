use Rattle.jf_lead.proofs.Deciding.{landing_blocks-append}
use Rattle.jf_lead.proofs.laws.landing_refusals_stay.Goals as goal

pub returns : goal.returns
returns c = landing_blocks-append
