use Rattle.jf_history.proofs.Replies.{looks_reply}
use Rattle.jf_history.proofs.laws.looks_reply.Goals as goal

pub returns : goal.returns
returns c = looks_reply
