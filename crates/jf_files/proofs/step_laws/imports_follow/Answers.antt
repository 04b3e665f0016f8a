use Rattle.jf_files.proofs.Stepping.{imports_follow}
use Rattle.jf_files.proofs.step_laws.imports_follow.Goals as goal

pub returns : goal.returns
returns c = imports_follow c.spelled_is_spelling.ensures c.checkpoints_give.ensures c.imports_are_sound.ensures
