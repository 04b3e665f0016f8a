use Rattle.std.proofs.Common.{◌≡◌, ◌-◌, ◌+◌, ◌*◌, ◌++◌, length, take}
use Rattle.std.specs.Option.{option_copied}
use Rattle.jf_node.specs.Children.{content}
use Rattle.jf_walk.proofs.WalkLaws.{listed_to}
use Rattle.jf_diff.specs.Below.{IsStaleBelow}
use Rattle.jf_diff.specs.Gone.{gone_node_below}
use Rattle.jf_diff.proofs.gone.+gone.Given as goal

abbrev pub decreases-list_gone : goal.decreases-list_gone
decreases-list_gone l = 2 * (65 - l.old.now.depth)

abbrev pub decreases-list_gone_at : goal.decreases-list_gone_at
decreases-list_gone_at l = 2 * (64 - l.old.now.depth) + 1

abbrev pub invariant-list_gone-loop-n : goal.invariant-list_gone-loop-n
invariant-list_gone-loop-n l = record {
  front : take (length l.fn.out.items) l.out.items ≡ l.fn.out.items;
  listed : IsStaleBelow l.version l.old (option_copied l.new) → l.out.items ≡ l.fn.out.items ++ listed_to l.old.depth l.n (content (option_copied l.new)) l.old.entries (gone_node_below l.version l.path l.old);
}
