use Rattle.std.proofs.Common.{◌+◌, ◌*◌, length}
use Rattle.jf_serve.proofs.side_by_side.+sessions.Given as goal

abbrev pub decreases-before : goal.decreases-before
decreases-before g l = 2 * length l.passes.items + 1

abbrev pub decreases-run_side_by_side : goal.decreases-run_side_by_side
decreases-run_side_by_side g l = 2 * length l.passes.items
