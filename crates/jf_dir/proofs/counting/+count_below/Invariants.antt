-- The nodes below the children before the present nibble are counted.
use Rattle.std.proofs.Common.{◌≡◌, ◌-◌, suc, length}
use Rattle.jf_model.specs.Walk.{each_from}
use Rattle.jf_dir.proofs.NodeCounts.{below_at}
use Rattle.jf_dir.proofs.counting.+count_below.Given as goal

abbrev pub decreases-count_below : goal.decreases-count_below
decreases-count_below l = 65 - l.link.now.depth

abbrev pub invariant-loop-n : goal.invariant-loop-n
invariant-loop-n l = l.count ≡ suc (length (each_from l.n 0 (below_at l.link.depth l.link.entries)))
