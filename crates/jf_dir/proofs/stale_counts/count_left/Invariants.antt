-- As many counts are dropped as the loop has made steps, and taken off.
use Rattle.std.proofs.Common.{◌≡◌, ◌+◌, take, drop}
use Rattle.std.specs.List.{sum}
use Rattle.jf_dir.proofs.stale_counts.count_left.Given as goal

abbrev pub invariant-loop : goal.invariant-loop
invariant-loop l = record {
  left : l.left + sum (take l.counter l.fn.counts.items) ≡ l.number;
  items : l.counts.items ≡ drop l.counter l.fn.counts.items;
}
