use Rattle.jf_pair.proofs.FileLaws.{holds_undamaged, undamaged_holds}
use Rattle.jf_pair.proofs.laws.undamaged_files_hold_records.Goals as goal

pub returns : goal.returns
returns c = λ files. (λ held. holds_undamaged files held.0 held.1, undamaged_holds files)
