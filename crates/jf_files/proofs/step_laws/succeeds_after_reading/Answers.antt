use Rattle.jf_files.proofs.Stepping.{succeeds_after_reading}
use Rattle.jf_files.proofs.step_laws.succeeds_after_reading.Goals as goal

pub returns : goal.returns
returns c = succeeds_after_reading
