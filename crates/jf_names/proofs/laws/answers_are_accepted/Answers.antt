use Rattle.jf_names.proofs.BlockLaws.{claims_in-accepted}
use Rattle.jf_names.proofs.laws.answers_are_accepted.Goals as goal

pub returns : goal.returns
returns c = claims_in-accepted c.own_claims_are_accepted.ensures
