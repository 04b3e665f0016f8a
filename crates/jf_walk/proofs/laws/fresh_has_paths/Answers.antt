use Rattle.jf_walk.proofs.NodePaths.{IsPath-fresh}
use Rattle.jf_walk.proofs.laws.fresh_has_paths.Goals as goal

pub returns : goal.returns
returns c = IsPath-fresh
