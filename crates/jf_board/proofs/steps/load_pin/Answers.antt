use Rattle.std.proofs.Common.{rules, refl, ap, arith}
use Rattle.jf_board.proofs.Pruning.{scans}
use Rattle.jf_board.proofs.steps.load_pin.Goals as goal

pub load-requires : goal.load-requires
load-requires c = let seen = ap (λ z. z.words) c.board.view_is in let words = c.board.invariant.0 in let key = c.board.invariant.1 in (search rules, search rules, scans _ _ _ c.args.k _ _ (ap (λ m. m.0) c.requires.pruner) c.requires.next.0 (omega arith))

pub returns-clause-below : goal.returns-clause-below
returns-clause-below c = (c.load.ensures.2 _ c.args.k (ap (λ m. m.0) c.requires.pruner) refl).2
