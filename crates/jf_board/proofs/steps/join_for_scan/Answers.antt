use Rattle.std.proofs.Common.{rules, ap}
use Rattle.jf_board.proofs.Joining.{joins_for_scan}
use Rattle.jf_board.proofs.steps.join_for_scan.Goals as goal

pub join_seat-requires : goal.join_seat-requires
join_seat-requires c = (search rules, search rules, search rules, search rules, joins_for_scan _ _ _ _ _ _ _ (ap (λ m. m.0) c.requires.seats.0) (ap (λ m. m.0) c.requires.seats.1.0))
