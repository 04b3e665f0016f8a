-- the number of the new entries at the places so far, and of the old ones after them
use Rattle.std.proofs.Common.{◌≡◌, ◌+◌, length, take, drop}
use Rattle.jf_node.specs.Children.{entries_of_children}
use Rattle.jf_node.proofs.link.Link.recount.Given as goal

abbrev pub invariant-loop-n : goal.invariant-loop-n
invariant-loop-n l = l.total ≡ length (entries_of_children (take l.n l.children)) + length (entries_of_children (drop l.n l.old))
