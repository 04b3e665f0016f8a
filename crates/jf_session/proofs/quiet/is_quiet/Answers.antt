use Rattle.jf_session.proofs.QuietLines.{answer-none, other_word}
use Rattle.jf_session.proofs.quiet.is_quiet.Goals as goal

pub returns : goal.returns
returns c = λ quiet s own. answer-none c.args.line.now _ _ c.split_word.ensures (other_word c.split_word.result.0.now c.is_store_word.result c.is_store_word.ensures quiet) s own
