use Rattle.std.proofs.Common.{◌+◌, ◌-◌, ◌*◌}
use Rattle.std.specs.Option.{option_copied}
use Rattle.jf_model.specs.Changes.{entries_after_batch}
use Rattle.jf_node.specs.Children.{content}
use Rattle.jf_update.proofs.BuildLaws.{IsBuilding}
use Rattle.jf_update.proofs.leaf.+build.Given as goal

abbrev pub decreases-build : goal.decreases-build
decreases-build l = 2 * (64 - l.depth) + 1

abbrev pub decreases-build_children : goal.decreases-build_children
decreases-build_children l = 2 * (64 - l.depth)

abbrev pub invariant-build_children-loop-n : goal.invariant-build_children-loop-n
invariant-build_children-loop-n l = IsBuilding l.depth l.version l.n l.start (entries_after_batch (content (option_copied l.own)) l.entries) l.entries l.children
