use Rattle.jf_session.proofs.LeadLaws.{one_pass_leads_all}
use Rattle.jf_session.proofs.laws.one_pass_leads_all.Goals as goal

pub returns : goal.returns
returns c = one_pass_leads_all
