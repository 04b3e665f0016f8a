use Rattle.jf_standing.proofs.SpelledRecords.{landing-kept}
use Rattle.jf_standing.proofs.spelling_laws.landings_are_kept.Goals as goal

pub returns : goal.returns
returns c = landing-kept
