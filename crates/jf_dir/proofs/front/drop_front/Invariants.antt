-- As many snapshots are dropped as the loop has made steps.
use Rattle.std.proofs.Common.{◌≡◌, drop}
use Rattle.jf_dir.proofs.front.drop_front.Given as goal

abbrev pub invariant-loop : goal.invariant-loop
invariant-loop l = l.snapshots.items ≡ drop l.counter l.fn.snapshots.items
