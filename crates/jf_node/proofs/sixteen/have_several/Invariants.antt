-- fewer than two entries so far
use Rattle.std.proofs.Common.{◌≡◌, ◌<◌, length, take}
use Rattle.jf_node.specs.Children.{entries_of_children}
use Rattle.jf_node.proofs.sixteen.have_several.Given as goal

abbrev pub invariant-loop-link : goal.invariant-loop-link
invariant-loop-link l = (l.total ≡ length (entries_of_children (take l.link-index l.links))) × (l.total < 2)
