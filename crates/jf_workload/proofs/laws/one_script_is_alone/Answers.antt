use Rattle.jf_workload.proofs.ScriptAlone.{script_is_alone}
use Rattle.jf_workload.proofs.laws.one_script_is_alone.Goals as goal

pub returns : goal.returns
returns c = script_is_alone c.one_end_is_alone.ensures
