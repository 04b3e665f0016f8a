use Rattle.jf_answers.proofs.LegalEntries.{answers_are_legal}
use Rattle.jf_answers.proofs.laws.answers_are_legal.Goals as goal

pub returns : goal.returns
returns c = answers_are_legal
