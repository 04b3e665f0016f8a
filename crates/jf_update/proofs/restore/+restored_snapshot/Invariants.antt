use Rattle.std.proofs.Common.{◌+◌, ◌-◌, ◌*◌}
use Rattle.jf_update.proofs.RestoreLaws.{IsRestoring}
use Rattle.jf_update.proofs.restore.+restored_snapshot.Given as goal

abbrev pub decreases-restored_part : goal.decreases-restored_part
decreases-restored_part l = 2 * (64 - l.depth) + 1

abbrev pub decreases-restored_children : goal.decreases-restored_children
decreases-restored_children l = 2 * (64 - l.depth)

abbrev pub invariant-restored_children-loop-n : goal.invariant-restored_children-loop-n
invariant-restored_children-loop-n l = IsRestoring l.depth l.n l.start l.fn.taken l.taken l.entries l.versions l.children
