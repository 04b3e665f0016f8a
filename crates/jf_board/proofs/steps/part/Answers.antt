use Rattle.std.proofs.Common.{rules, ap}
use Rattle.jf_board.proofs.Joining.{parts_some}
use Rattle.jf_board.proofs.steps.part.Goals as goal

pub split_seat-requires : goal.split_seat-requires
split_seat-requires c = (search rules, search rules, parts_some _ _ _ _ (ap (λ m. m.0) c.requires.pruner.0) c.requires.pruner.1)
