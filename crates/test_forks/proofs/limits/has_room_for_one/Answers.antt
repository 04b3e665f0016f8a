use Rattle.test_forks.proofs.limits.has_room_for_one.Goals as goal

pub attempt-made-requires-clause-over : goal.attempt-made-requires-clause-over
attempt-made-requires-clause-over c = c.drop_fork-dropped.ensures.stands c.args.head.now.map c.attempt-unknown.ensures.stands
