use Rattle.jf_check.proofs.AddUp.{sizes_add}
use Rattle.jf_check.proofs.laws.sizes_add_up.Goals as goal

pub returns : goal.returns
returns c = sizes_add
