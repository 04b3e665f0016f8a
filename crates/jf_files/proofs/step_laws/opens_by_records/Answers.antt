use Rattle.jf_files.proofs.Stepping.{opens_by_records}
use Rattle.jf_files.proofs.step_laws.opens_by_records.Goals as goal

pub returns : goal.returns
returns c = opens_by_records
