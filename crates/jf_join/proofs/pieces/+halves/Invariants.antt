use Rattle.std.proofs.Common.{◌+◌, ◌*◌}
use Rattle.jf_join.proofs.pieces.+halves.Given as goal

abbrev pub decreases-join_pieces_from : goal.decreases-join_pieces_from
decreases-join_pieces_from g l = 2 * l.workers

abbrev pub decreases-left : goal.decreases-left
decreases-left g l = 2 * l.fewer.now + 1

abbrev pub decreases-right : goal.decreases-right
decreases-right g l = 2 * l.others.now + 1
