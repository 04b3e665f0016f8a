use Rattle.jf_codec.proofs.Spellings.{one_spelling}
use Rattle.jf_codec.proofs.laws.one_spelling.Goals as goal

pub returns : goal.returns
returns c = one_spelling
