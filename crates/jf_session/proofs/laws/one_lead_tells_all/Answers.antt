use Rattle.jf_session.proofs.LeadLaws.{one_lead_tells_all}
use Rattle.jf_session.proofs.laws.one_lead_tells_all.Goals as goal

pub returns : goal.returns
returns c = one_lead_tells_all
