use Rattle.std.proofs.Common.{arith}
use Rattle.jf_text.proofs.HexText.{bytes_within-few, bytes_within-many, bytes_within-kept}
use Rattle.jf_ask.proofs.hexadecimal.bytes_within.Goals as goal

pub returns-then-count-least-clause-bytes : goal.returns-then-count-least-clause-bytes
returns-then-count-least-clause-bytes c = grind (arith, bytes_within-few, bytes_within-many)

pub returns-clause-bytes : goal.returns-clause-bytes
returns-clause-bytes c = rw (bytes_within-kept c.args.least c.args.most c.args.word.now c.if-count-least.false c.if-most-count.false) c.unhexed_count.ensures.bytes
