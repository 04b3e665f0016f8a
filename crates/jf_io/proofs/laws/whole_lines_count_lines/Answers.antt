use Rattle.jf_io.proofs.WholeLines.{length-lines}
use Rattle.jf_io.proofs.laws.whole_lines_count_lines.Goals as goal

pub returns : goal.returns
returns c = length-lines
