use Rattle.jf_payload.proofs.WholeRecords.{record_or_not}
use Rattle.jf_payload.proofs.laws.spelling_is_decided.Goals as goal

pub returns : goal.returns
returns c = record_or_not
