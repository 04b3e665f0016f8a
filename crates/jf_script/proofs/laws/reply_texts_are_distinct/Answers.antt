use Rattle.jf_script.proofs.ReplyTexts.{reply_text-distinct}
use Rattle.jf_script.proofs.laws.reply_texts_are_distinct.Goals as goal

pub returns : goal.returns
returns c = reply_text-distinct
