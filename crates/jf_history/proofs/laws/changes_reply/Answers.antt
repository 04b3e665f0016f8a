use Rattle.jf_history.proofs.Replies.{changes_reply}
use Rattle.jf_history.proofs.laws.changes_reply.Goals as goal

pub returns : goal.returns
returns c = changes_reply
