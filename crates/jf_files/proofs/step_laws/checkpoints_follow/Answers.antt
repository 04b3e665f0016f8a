use Rattle.jf_files.proofs.Stepping.{checkpoints_follow}
use Rattle.jf_files.proofs.step_laws.checkpoints_follow.Goals as goal

pub returns : goal.returns
returns c = checkpoints_follow c.spelled_is_spelling.ensures c.checkpoints_give.ensures
