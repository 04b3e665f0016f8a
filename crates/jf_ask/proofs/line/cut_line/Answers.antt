use Rattle.std.proofs.Common.{arith, ◌<◌, length}
use Rattle.jf_io.proofs.Found.{lines-split}
use Rattle.jf_ask.proofs.FirstLine.{lines-empty}
use Rattle.jf_ask.proofs.line.cut_line.Goals as goal

pub returns-then-is_empty : goal.returns-then-is_empty
returns-then-is_empty c = lines-empty c.args.bytes.now (grind arith)

pub returns-else-is_empty : goal.returns-else-is_empty
returns-else-is_empty c =
    let more : 0 < length c.args.bytes.now = grind arith in
    rw (c.split_line.ensures.line, c.split_line.ensures.after) (lines-split c.args.bytes.now more)
