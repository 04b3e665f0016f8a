use Rattle.jf_follow.proofs.Moments.{followed-history}
use Rattle.jf_follow.proofs.laws.followed_is_history.Goals as goal

pub returns : goal.returns
returns c = followed-history
