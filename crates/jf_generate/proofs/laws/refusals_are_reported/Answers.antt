use Rattle.jf_generate.proofs.ReplyKinds.{is_refused-reply_text}
use Rattle.jf_generate.proofs.laws.refusals_are_reported.Goals as goal

pub returns : goal.returns
returns c = is_refused-reply_text
