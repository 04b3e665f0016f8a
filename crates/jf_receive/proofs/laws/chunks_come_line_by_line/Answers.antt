use Rattle.jf_receive.proofs.LineByLine.{chunks-lines}
use Rattle.jf_receive.proofs.laws.chunks_come_line_by_line.Goals as goal

pub returns : goal.returns
returns c = chunks-lines
