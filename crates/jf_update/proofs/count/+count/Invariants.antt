use Rattle.std.proofs.Common.{◌+◌, ◌-◌, ◌*◌}
use Rattle.jf_update.proofs.CountLaws.{IsCounting}
use Rattle.jf_update.proofs.count.+count.Given as goal

abbrev pub decreases-count_part : goal.decreases-count_part
decreases-count_part l = 2 * (64 - l.depth) + 1

abbrev pub decreases-count_under : goal.decreases-count_under
decreases-count_under l = 2 * (64 - l.depth)

abbrev pub invariant-count_under-loop-n : goal.invariant-count_under-loop-n
invariant-count_under-loop-n l = IsCounting l.depth l.n l.start l.count l.entries
