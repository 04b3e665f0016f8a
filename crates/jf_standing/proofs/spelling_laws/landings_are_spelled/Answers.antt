use Rattle.jf_standing.proofs.SpelledRecords.{landing-spelled}
use Rattle.jf_standing.proofs.spelling_laws.landings_are_spelled.Goals as goal

pub returns : goal.returns
returns c = landing-spelled
