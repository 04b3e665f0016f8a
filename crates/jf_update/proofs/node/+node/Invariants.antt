use Rattle.std.proofs.Common.{◌+◌, ◌-◌, ◌*◌}
use Rattle.jf_update.proofs.NodeUpdateLaws.{IsUpdating}
use Rattle.jf_update.proofs.node.+node.Given as goal

abbrev pub decreases-update_node : goal.decreases-update_node
decreases-update_node l = 2 * (64 - l.depth) + 1

abbrev pub decreases-update_children : goal.decreases-update_children
decreases-update_children l = 2 * (64 - l.depth)

abbrev pub invariant-update_children-loop-n : goal.invariant-update_children-loop-n
invariant-update_children-loop-n l = IsUpdating l.depth l.version l.n l.start l.children l.entries l.made.children l.made.changed
