-- The clauses follow from the laws of reading nodes.
use Rattle.std.proofs.Common.{arith}
use Rattle.jf_codec.proofs.Nodes.{is_node_found, is_only_node}
use Rattle.jf_codec.proofs.reading.decode_node.Goals as goal

pub returns-clause-found : goal.returns-clause-found
returns-clause-found c = is_node_found c.args.bytes.now c.measured_node.result (λ i. omega (arith, c.type_inv.bytes i)) c.measured_node.ensures

pub returns-clause-spelled : goal.returns-clause-spelled
returns-clause-spelled c = is_only_node c.args.bytes.now c.measured_node.result c.measured_node.ensures
