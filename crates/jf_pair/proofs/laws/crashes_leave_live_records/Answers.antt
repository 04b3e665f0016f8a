use Rattle.jf_pair.proofs.PairLaws.{in_step_holds, in_step_leaves}
use Rattle.jf_pair.proofs.laws.crashes_leave_live_records.Goals as goal

pub returns : goal.returns
returns c = λ p rs h k. (in_step_holds p rs h k, in_step_leaves p rs h k)
