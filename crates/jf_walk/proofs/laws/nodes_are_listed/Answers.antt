use Rattle.jf_walk.proofs.NodesListed.{nodes-exact}
use Rattle.jf_walk.proofs.laws.nodes_are_listed.Goals as goal

pub returns : goal.returns
returns c = λ m path part. nodes-exact m (path, part)
