use Rattle.std.proofs.Common.{rules, ap}
use Rattle.jf_board.proofs.Places.{confirms}
use Rattle.jf_board.proofs.steps.confirm.Goals as goal

pub load-requires : goal.load-requires
load-requires c = (search rules, search rules, confirms _ _ _ _ _ (ap (λ m. m.0) c.requires.place.0))
