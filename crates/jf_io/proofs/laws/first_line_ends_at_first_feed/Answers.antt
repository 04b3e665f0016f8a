use Rattle.jf_io.proofs.WholeLines.{lines-first}
use Rattle.jf_io.proofs.laws.first_line_ends_at_first_feed.Goals as goal

pub returns : goal.returns
returns c = lines-first
