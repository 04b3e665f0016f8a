use Rattle.jf_walk.proofs.NodePaths.{IsPath-is_node}
use Rattle.jf_walk.proofs.laws.nodes_have_paths.Goals as goal

pub returns : goal.returns
returns c = IsPath-is_node
