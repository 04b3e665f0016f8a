use Rattle.jf_walk.proofs.NodesListed.{fresh-exact}
use Rattle.jf_walk.proofs.laws.fresh_are_listed.Goals as goal

pub returns : goal.returns
returns c = λ m m' path part. fresh-exact m m' (path, part)
