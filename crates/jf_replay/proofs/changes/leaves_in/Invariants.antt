use Rattle.std.proofs.Common.{◌≡◌, map, take}
use Rattle.jf_standing.specs.Named.{leaf_entries}
use Rattle.jf_standing.specs.Standing.{unmarked_node}
use Rattle.jf_replay.proofs.changes.leaves_in.Given as goal

-- the leaves among the nodes before the present one are there
abbrev pub invariant-loop-node : goal.invariant-loop-node
invariant-loop-node l = l.leaves.items ≡ leaf_entries (map unmarked_node (take l.node-index l.nodes))
