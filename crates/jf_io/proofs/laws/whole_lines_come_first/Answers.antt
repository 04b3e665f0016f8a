use Rattle.jf_io.proofs.WholeLines.{take-lines}
use Rattle.jf_io.proofs.laws.whole_lines_come_first.Goals as goal

pub returns : goal.returns
returns c = take-lines
