use Rattle.std.proofs.Common.{◌≡◌, ◌+◌, ◌-◌, ◌++◌, take, drop, length}
use Rattle.jf_node.specs.Children.{entries_of_children}
use Rattle.jf_range.proofs.Visiting.{AreVisited}
use Rattle.jf_range.proofs.walk.+copy_range.Given as goal

abbrev pub decreases-copy_range : goal.decreases-copy_range
decreases-copy_range g l = 65 - l.link.now.depth

-- the entries copied from the children so far, and the steps that this took
abbrev pub invariant-loop-n : goal.invariant-loop-n
invariant-loop-n g l =
    record {
      copied : l.out ≡ l.fn.out ++ take l.fn.room (drop l.fn.skip (entries_of_children (take l.n l.children)));
      skip : l.skip ≡ l.fn.skip - length (entries_of_children (take l.n l.children));
      room : l.room + length (take l.fn.room (drop l.fn.skip (entries_of_children (take l.n l.children)))) ≡ l.fn.room;
      visited : AreVisited (63 - l.link.depth) l.fn.skip l.fn.room (length (entries_of_children (take l.n l.children))) l.n l.fn.steps l.steps;
    }
