use Rattle.jf_files.proofs.Judging.{calm_both}
use Rattle.jf_files.proofs.laws.calm_both.Goals as goal

pub returns : goal.returns
returns c = calm_both c.items_lead_to_one.ensures c.spelled_is_read.ensures
