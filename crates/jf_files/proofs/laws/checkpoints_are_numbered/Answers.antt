use Rattle.jf_files.proofs.Numbered.{are_numbered}
use Rattle.jf_files.proofs.laws.checkpoints_are_numbered.Goals as goal

pub returns : goal.returns
returns c = are_numbered
