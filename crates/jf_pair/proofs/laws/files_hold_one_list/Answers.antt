use Rattle.jf_pair.proofs.FileLaws.{holds_one}
use Rattle.jf_pair.proofs.laws.files_hold_one_list.Goals as goal

pub returns : goal.returns
returns c = holds_one
