use Rattle.jf_standing.proofs.SpelledRecords.{checkpoint-spelled}
use Rattle.jf_standing.proofs.spelling_laws.checkpoints_are_spelled.Goals as goal

pub returns : goal.returns
returns c = checkpoint-spelled
