use Rattle.jf_board.proofs.RuleLaws.{IsBoard-cut_is_low}
use Rattle.jf_board.proofs.laws.know_cut_is_low.Goals as goal

pub returns : goal.returns
returns c = IsBoard-cut_is_low
