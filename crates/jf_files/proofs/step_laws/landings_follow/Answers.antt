use Rattle.jf_files.proofs.Stepping.{landings_follow}
use Rattle.jf_files.proofs.step_laws.landings_follow.Goals as goal

pub returns : goal.returns
returns c = landings_follow c.spelled_is_spelling.ensures c.groups_land.ensures
