use Rattle.jf_trim.proofs.Keeping.{kept_stops_well}
use Rattle.jf_trim.proofs.laws.kept_stores_stop_well.Goals as goal

pub returns : goal.returns
returns c = kept_stops_well
