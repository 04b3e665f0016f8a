use Rattle.jf_files.proofs.Judging.{generation_live}
use Rattle.jf_files.proofs.laws.generation_is_live.Goals as goal

pub returns : goal.returns
returns c = generation_live
