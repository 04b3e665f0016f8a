use Rattle.jf_files.proofs.Stepping.{first_follows}
use Rattle.jf_files.proofs.step_laws.first_follows.Goals as goal

pub returns : goal.returns
returns c = first_follows c.spelled_is_spelling.ensures c.checkpoints_give.ensures c.new_is_sound.ensures
