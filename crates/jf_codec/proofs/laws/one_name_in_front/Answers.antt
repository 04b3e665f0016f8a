use Rattle.jf_codec.proofs.Spellings.{one_name_in_front}
use Rattle.jf_codec.proofs.laws.one_name_in_front.Goals as goal

pub returns : goal.returns
returns c = one_name_in_front
