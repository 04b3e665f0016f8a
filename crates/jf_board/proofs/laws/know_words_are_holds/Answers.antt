use Rattle.jf_board.proofs.RuleLaws.{IsBoard-words_are_holds}
use Rattle.jf_board.proofs.laws.know_words_are_holds.Goals as goal

pub returns : goal.returns
returns c = IsBoard-words_are_holds
