use Rattle.jf_files.proofs.Judging.{has_format}
use Rattle.jf_files.proofs.laws.checkpoints_have_formats.Goals as goal

pub returns : goal.returns
returns c = has_format
