use Rattle.std.proofs.Common.{rules, ap}
use Rattle.jf_board.proofs.Pruning.{raises}
use Rattle.jf_board.proofs.steps.raise.Goals as goal

pub store-requires : goal.store-requires
store-requires c = (search rules, search rules, raises _ _ _ _ _ _ (ap (λ m. m.0) c.requires.pruner) c.requires.up)
