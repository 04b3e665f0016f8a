use Rattle.jf_files.proofs.Stepping.{stops_by_records}
use Rattle.jf_files.proofs.step_laws.stops_by_records.Goals as goal

pub returns : goal.returns
returns c = stops_by_records
