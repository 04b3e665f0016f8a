use Rattle.jf_walk.proofs.NodesListed.{fresh-differs}
use Rattle.jf_walk.proofs.laws.fresh_is_what_differs.Goals as goal

pub returns : goal.returns
returns c = λ m m' path part. fresh-differs m m' (path, part)
