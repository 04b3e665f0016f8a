use Rattle.std.proofs.Common.{rules, ap, ◌∙◌}
use Rattle.jf_board.specs.States.{pruner_of, place_of}
use Rattle.jf_board.specs.Steps.{joined_for_good, with_joined}
use Rattle.jf_board.proofs.Joining.{joins_for_good, learns}
use Rattle.jf_board.proofs.steps.join_for_good.Goals as goal

pub join_seat-requires : goal.join_seat-requires
join_seat-requires c = (search rules, search rules, search rules, search rules, joins_for_good _ _ _ _ _ _ _ (ap (λ m. m.0) c.requires.seats.0) (ap (λ m. m.0) c.requires.seats.1.0))

pub load-requires : goal.load-requires
load-requires c = (search rules, search rules, learns _ _ _ _ _ (ap (λ m. m.0) c.join_seat.ensures.2 ∙ (λ i. joined_for_good (ap (λ m. m.0) c.requires.seats.0 i) (ap (λ m. m.0) c.requires.seats.1.0 i))))

pub returns-clause-given : goal.returns-clause-given
returns-clause-given c = (c.load.ensures.2 (with_joined (pruner_of c.args.seat.now.me.0) (place_of c.args.place.me.0)) (ap (λ m. m.0) c.join_seat.ensures.2 ∙ (λ i. joined_for_good (ap (λ m. m.0) c.requires.seats.0 i) (ap (λ m. m.0) c.requires.seats.1.0 i)))).2
