use Rattle.std.proofs.Common.{◌≡◌, true}
use Rattle.jf_model.specs.Nodes.{child_in_node}
use Rattle.jf_model.specs.Walk.{each_from}
use Rattle.jf_diff.proofs.PlainNodes.{versions_below}
use Rattle.jf_diff.proofs.plain_node.children_into.Given as goal

abbrev pub invariant-loop-n : goal.invariant-loop-n
invariant-loop-n l = l.list ≡ each_from l.n 0 (child_in_node true (versions_below l.link) l.link.depth l.link.entries)
