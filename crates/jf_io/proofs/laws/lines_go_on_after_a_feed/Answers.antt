use Rattle.jf_io.proofs.WholeLines.{lines-append}
use Rattle.jf_io.proofs.laws.lines_go_on_after_a_feed.Goals as goal

pub returns : goal.returns
returns c = lines-append
