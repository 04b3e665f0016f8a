use Rattle.jf_io.proofs.WholeLines.{lines-one}
use Rattle.jf_io.proofs.laws.bytes_without_feed_are_one_line.Goals as goal

pub returns : goal.returns
returns c = lines-one
