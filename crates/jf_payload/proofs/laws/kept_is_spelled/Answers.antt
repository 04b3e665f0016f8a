use Rattle.jf_payload.proofs.FormatLaws.{kept_is_spelled}
use Rattle.jf_payload.proofs.laws.kept_is_spelled.Goals as goal

pub returns : goal.returns
returns c = kept_is_spelled
