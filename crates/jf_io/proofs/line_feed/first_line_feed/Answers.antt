use Rattle.jf_io.specs.LineReader.{is_line_feed}
use Rattle.jf_io.proofs.Lines.{position-or_len}
use Rattle.jf_io.proofs.line_feed.first_line_feed.Goals as goal

pub returns-clause-value : goal.returns-clause-value
returns-clause-value c = let e = position-or_len is_line_feed c.args.bytes.now in cc
