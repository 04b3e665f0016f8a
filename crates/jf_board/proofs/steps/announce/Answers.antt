use Rattle.std.proofs.Common.{rules, ap, arith}
use Rattle.jf_board.proofs.Places.{announces_at}
use Rattle.jf_board.proofs.steps.announce.Goals as goal

pub store-requires : goal.store-requires
store-requires c = let seen = ap (λ z. z.words) c.board.view_is in let n = c.requires.place.0.1 in (search rules, omega arith, announces_at _ _ _ c.args.place c.args.version _ _ _ (ap (λ m. m.0) c.requires.place.0.0) c.requires.place.1 (omega arith))
