use Rattle.jf_board.proofs.RuleLaws.{IsBoard-loaded_gates_are_low}
use Rattle.jf_board.proofs.laws.know_loaded_gates_are_low.Goals as goal

pub returns : goal.returns
returns c = IsBoard-loaded_gates_are_low
