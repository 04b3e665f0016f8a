use Rattle.std.proofs.Common.{sym, arith}
use Rattle.jf_text.proofs.HexText.{unhex-odd}
use Rattle.jf_ask.proofs.hexadecimal.unhexed_count.Goals as goal

pub returns-then-word-eq1-clause-bytes : goal.returns-then-word-eq1-clause-bytes
returns-then-word-eq1-clause-bytes c = sym (unhex-odd c.args.word.now (omega arith))
