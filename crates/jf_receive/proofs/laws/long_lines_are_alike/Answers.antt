use Rattle.jf_receive.proofs.LongLines.{after-long}
use Rattle.jf_receive.proofs.laws.long_lines_are_alike.Goals as goal

pub returns : goal.returns
returns c = after-long
