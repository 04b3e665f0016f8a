-- Each node gone into so far is listed.
use Rattle.std.proofs.Common.{◌≡◌, ℕ, ◌-◌, ◌+◌, ◌*◌, ◌++◌, Option, length}
use Rattle.jf_hash.specs.Slots.{Part}
use Rattle.jf_model.specs.Nodes.{Path}
use Rattle.jf_walk.proofs.WalkLaws.{listed_to}
use Rattle.jf_diff.specs.Below.{IsFreshBelow}
use Rattle.jf_diff.specs.Plains.{fresh_below}
use Rattle.jf_diff.proofs.list.+fresh.Given as goal

abbrev pub decreases-list_fresh : goal.decreases-list_fresh
decreases-list_fresh g l = 2 * (65 - l.link.now.depth)

abbrev pub decreases-list_fresh_at : goal.decreases-list_fresh_at
decreases-list_fresh_at g l = 2 * (64 - l.link.now.depth) + 1

abbrev pub invariant-list_fresh-loop-n : goal.invariant-list_fresh-loop-n
invariant-list_fresh-loop-n g l = record {
  lists : (es : Part) (before : Path → Option ℕ) → IsFreshBelow l.version es before l.link → l.out ≡ l.fn.out ++ listed_to l.link.depth l.n es l.link.entries (fresh_below l.version l.path l.link);
  cost : l.steps + length l.fn.out ≡ l.fn.steps + length l.out;
}
