use Rattle.std.proofs.Common.{arith, ◌<◌, length}
use Rattle.jf_io.proofs.Found.{lines-split}
use Rattle.jf_serve.proofs.line.cut_line.Goals as goal

pub returns-else-is_empty-clause-split : goal.returns-else-is_empty-clause-split
returns-else-is_empty-clause-split c =
    let some : 0 < length c.args.bytes.now = grind arith in
    rw (c.split_line.ensures.line, c.split_line.ensures.after) (lines-split c.args.bytes.now some)
