use Rattle.jf_lead.proofs.LineByLine.{landing_blocks-lines}
use Rattle.jf_lead.proofs.laws.landings_come_line_by_line.Goals as goal

pub returns : goal.returns
returns c = landing_blocks-lines
