use Rattle.jf_files.proofs.Stepping.{compactions_follow}
use Rattle.jf_files.proofs.step_laws.compactions_follow.Goals as goal

pub returns : goal.returns
returns c = compactions_follow c.spelled_is_spelling.ensures c.checkpoints_give.ensures c.formats_are_sound.ensures
