use Rattle.jf_board.proofs.RuleLaws.{IsBoard-pairs_are_announced}
use Rattle.jf_board.proofs.laws.know_pairs_are_announced.Goals as goal

pub returns : goal.returns
returns c = IsBoard-pairs_are_announced
