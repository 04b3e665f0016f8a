use Rattle.std.proofs.Common.{max}
use Rattle.jf_board.proofs.Pruning.{below_max, max_is}
use Rattle.jf_board.proofs.laws.know_greater_is_below.Goals as goal

pub returns : goal.returns
returns c a b hold first second = below_max a b (max a b) hold (max_is a b) first second
