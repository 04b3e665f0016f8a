use Rattle.std.proofs.Common.{◌+◌, ◌-◌, ◌*◌}
use Rattle.jf_update.proofs.wide.+wide.Given as goal

abbrev pub decreases-update_wide : goal.decreases-update_wide
decreases-update_wide g l = 4 * (64 - l.depth) + 3

abbrev pub decreases-update_pieces : goal.decreases-update_pieces
decreases-update_pieces g l = 4 * (64 - l.depth) + 2

abbrev pub decreases-update_pieces-work : goal.decreases-update_pieces-work
decreases-update_pieces-work g l = 4 * (64 - l.depth) + 1

abbrev pub decreases-update_piece : goal.decreases-update_piece
decreases-update_piece g l = 4 * (64 - l.depth)
