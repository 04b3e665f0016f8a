-- The nodes that were taken from the end are in order.
use Rattle.std.proofs.Common.{◌≡◌, ◌++◌, List, length, map}
use Rattle.jf_standing.specs.Building.{apart}
use Rattle.jf_standing.specs.Named.{NamedNode}
use Rattle.jf_standing.specs.Order.{by_name}
use Rattle.jf_dir.proofs.listing.nodes_by_name.Given as goal

abbrev pub decreases-loop-name : goal.decreases-loop-name
decreases-loop-name l = length l.nodes.items

abbrev pub invariant-loop-name : goal.invariant-loop-name
invariant-loop-name l = (done : List NamedNode) × (l.nodes.items ++ done ≡ l.fn.nodes.items) × (l.ordered.entries ≡ by_name (map apart done))
