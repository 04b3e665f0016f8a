use Rattle.jf_payload.proofs.WholeRecords.{one_record}
use Rattle.jf_payload.proofs.laws.one_record.Goals as goal

pub returns : goal.returns
returns c = one_record
