-- The bytes after a node are no more than all bytes, so their difference is a length.
use Rattle.std.proofs.Common.{arith}
use Rattle.jf_codec.proofs.Nodes.{node_short}
use Rattle.jf_codec.proofs.reading.measured_node.Goals as goal

pub overflow_sub-result : goal.overflow_sub-result
overflow_sub-result c = node_short c.args.bytes.now (c.in_ok-node.node, c.in_ok-node.rest.now) (λ i. omega (arith, c.type_inv.bytes i)) c.in_ok-node.ensures
