use Rattle.jf_text.proofs.HashText.{hash_of-other}
use Rattle.jf_text.proofs.hexadecimal.hash_of.Goals as goal

pub returns-then-word-ne64 : goal.returns-then-word-ne64
returns-then-word-ne64 c = hash_of-other c.args.word.now c.if-word-ne64.true
