use Rattle.jf_payload.proofs.Uncounted.{written_in_both}
use Rattle.jf_payload.proofs.laws.written_in_both.Goals as goal

pub returns : goal.returns
returns c = written_in_both
