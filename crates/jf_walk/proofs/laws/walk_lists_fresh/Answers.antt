use Rattle.jf_walk.proofs.FreshLaws.{with_root-fresh}
use Rattle.jf_walk.proofs.laws.walk_lists_fresh.Goals as goal

pub returns : goal.returns
returns c = λ m m'. with_root-fresh m m' (λ path. path)
