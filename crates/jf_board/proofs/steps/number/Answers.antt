use Rattle.std.proofs.Common.{rules, ap, arith}
use Rattle.jf_board.proofs.Making.{numbers}
use Rattle.jf_board.proofs.steps.number.Goals as goal

pub fetch_add-requires : goal.fetch_add-requires
fetch_add-requires c = let seen = ap (λ z. z.words) c.board.view_is in let words = c.board.invariant.0 in let key = c.board.invariant.1 in let few = c.board.invariant.2 in (search rules, omega arith, numbers _ _ _ _ _ (ap (λ m. m.0) c.requires.pruner) (omega arith) (omega arith))
