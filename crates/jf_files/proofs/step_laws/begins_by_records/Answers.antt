use Rattle.jf_files.proofs.Stepping.{begins_by_records}
use Rattle.jf_files.proofs.step_laws.begins_by_records.Goals as goal

pub returns : goal.returns
returns c = begins_by_records
