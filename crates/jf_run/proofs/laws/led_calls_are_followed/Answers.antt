use Rattle.jf_run.proofs.Followers.{led_followed}
use Rattle.jf_run.proofs.laws.led_calls_are_followed.Goals as goal

pub returns : goal.returns
returns c = led_followed c.inputs_agree.ensures
