use Rattle.std.proofs.Common.{◌+◌, ◌-◌, ◌*◌}
use Rattle.jf_update.proofs.wide_leaf.+wide_build.Given as goal

abbrev pub decreases-build_wide : goal.decreases-build_wide
decreases-build_wide g l = 4 * (64 - l.depth) + 3

abbrev pub decreases-build_pieces : goal.decreases-build_pieces
decreases-build_pieces g l = 4 * (64 - l.depth) + 2

abbrev pub decreases-build_pieces-work : goal.decreases-build_pieces-work
decreases-build_pieces-work g l = 4 * (64 - l.depth) + 1

abbrev pub decreases-build_piece : goal.decreases-build_piece
decreases-build_piece g l = 4 * (64 - l.depth)
