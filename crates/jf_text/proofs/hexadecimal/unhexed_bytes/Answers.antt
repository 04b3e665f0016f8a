use Rattle.std.proofs.Common.{sym, arith}
use Rattle.jf_text.proofs.HexText.{unhex-odd}
use Rattle.jf_text.proofs.hexadecimal.unhexed_bytes.Goals as goal

pub returns-then-word-eq1 : goal.returns-then-word-eq1
returns-then-word-eq1 c = sym (unhex-odd c.args.word.now (omega arith))
