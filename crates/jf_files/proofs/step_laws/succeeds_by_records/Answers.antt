use Rattle.jf_files.proofs.Stepping.{succeeds_by_records}
use Rattle.jf_files.proofs.step_laws.succeeds_by_records.Goals as goal

pub returns : goal.returns
returns c = succeeds_by_records
