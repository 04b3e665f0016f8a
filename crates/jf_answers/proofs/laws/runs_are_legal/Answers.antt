use Rattle.jf_answers.proofs.LegalRuns.{runs_are_legal}
use Rattle.jf_answers.proofs.laws.runs_are_legal.Goals as goal

pub returns : goal.returns
returns c = runs_are_legal
