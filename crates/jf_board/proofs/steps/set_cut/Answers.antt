use Rattle.std.proofs.Common.{rules, ap, arith}
use Rattle.jf_board.proofs.Pruning.{cuts}
use Rattle.jf_board.proofs.steps.set_cut.Goals as goal

pub store-requires : goal.store-requires
store-requires c = let seen = ap (λ z. z.words) c.board.view_is in let words = c.board.invariant.0 in let key = c.board.invariant.1 in (search rules, omega arith, cuts _ _ _ _ _ _ (ap (λ m. m.0) c.requires.pruner) (omega arith) c.requires.up)
