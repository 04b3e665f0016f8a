use Rattle.jf_files.proofs.Stepping.{floors_follow}
use Rattle.jf_files.proofs.step_laws.floors_follow.Goals as goal

pub returns : goal.returns
returns c = floors_follow c.spelled_is_spelling.ensures c.floors_prune.ensures
