use Rattle.jf_standing.proofs.ValidNodes.{nodes-valid}
use Rattle.jf_standing.proofs.order_laws.nodes_are_valid.Goals as goal

pub returns : goal.returns
returns c = nodes-valid
