use Rattle.std.proofs.Common.{◌≡◌, ◌<◌, ◌^◌, length, take, map, Some}
use Rattle.jf_node.specs.Children.{entries_of_children}
use Rattle.jf_node.proofs.branches.count_all.Given as goal

abbrev pub invariant-loop-link : goal.invariant-loop-link
invariant-loop-link l = record {
  total : l.total ≡ length (entries_of_children (map Some (take l.link-index l.links)));
  small : l.total < 2 ^ 64;
}
