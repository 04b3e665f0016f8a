-- The place falls behind the children so far; each place of the node looked at was a step.
use Rattle.std.proofs.Common.{◌≡◌, ◌+◌, ◌-◌, length, take}
use Rattle.jf_node.specs.Children.{entries_of_children}
use Rattle.jf_nth.proofs.place.+nth_below.Given as goal

abbrev pub decreases-nth_below : goal.decreases-nth_below
decreases-nth_below g l = 64 - l.link.now.depth

abbrev pub invariant-loop-n : goal.invariant-loop-n
invariant-loop-n g l =
    record {
      at : length (entries_of_children (take l.n l.children)) + l.left ≡ l.fn.place;
      steps : l.steps ≡ l.fn.steps + l.n;
    }
