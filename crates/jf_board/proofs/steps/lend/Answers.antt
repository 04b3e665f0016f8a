use Rattle.std.proofs.Common.{rules, ap}
use Rattle.jf_board.proofs.Joining.{lends}
use Rattle.jf_board.proofs.steps.lend.Goals as goal

pub split_seat-requires : goal.split_seat-requires
split_seat-requires c = (search rules, search rules, lends _ _ _ _ (ap (λ m. m.0) c.requires.place.0))
