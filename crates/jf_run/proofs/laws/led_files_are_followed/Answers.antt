use Rattle.jf_run.proofs.Followers.{files_followed}
use Rattle.jf_run.proofs.laws.led_files_are_followed.Goals as goal

pub returns : goal.returns
returns c = files_followed c.inputs_agree.ensures c.files_stand_for_one.ensures
