use Rattle.std.proofs.Common.{◌-◌}
use Rattle.test_node.proofs.nodes.+two.Given as goal

abbrev pub decreases-two : goal.decreases-two
decreases-two l = 64 - l.depth
