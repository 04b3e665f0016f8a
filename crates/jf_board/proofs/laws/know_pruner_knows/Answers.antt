use Rattle.jf_board.proofs.RuleLaws.{IsBoard-pruner_knows}
use Rattle.jf_board.proofs.laws.know_pruner_knows.Goals as goal

pub returns : goal.returns
returns c = IsBoard-pruner_knows
