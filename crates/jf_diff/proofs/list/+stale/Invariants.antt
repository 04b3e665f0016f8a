-- Each node gone into so far is listed.
use Rattle.std.proofs.Common.{◌≡◌, ◌-◌, ◌+◌, ◌*◌, ◌++◌, length}
use Rattle.std.specs.Option.{option_copied}
use Rattle.jf_node.specs.Children.{content}
use Rattle.jf_walk.proofs.WalkLaws.{listed_to}
use Rattle.jf_diff.specs.Below.{IsStaleBelow, name_below}
use Rattle.jf_diff.proofs.list.+stale.Given as goal

abbrev pub decreases-list_stale : goal.decreases-list_stale
decreases-list_stale g l = 2 * (65 - l.old.now.depth)

abbrev pub decreases-list_stale_at : goal.decreases-list_stale_at
decreases-list_stale_at g l = 2 * (64 - l.old.now.depth) + 1

abbrev pub invariant-list_stale-loop-n : goal.invariant-list_stale-loop-n
invariant-list_stale-loop-n g l = record {
  lists : IsStaleBelow l.version l.old (option_copied l.new) → l.out.items ≡ l.fn.out.items ++ listed_to l.old.depth l.n (content (option_copied l.new)) l.old.entries (name_below l.path l.old);
  cost : l.steps + length l.fn.out.items ≡ l.fn.steps + length l.out.items;
}
