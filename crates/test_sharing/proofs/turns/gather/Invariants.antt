use Rattle.std.proofs.Common.{vec_len}
use Rattle.test_sharing.proofs.Gathering.{Gathering}
use Rattle.test_sharing.proofs.turns.gather.Given as goal

abbrev pub invariant-loop-other : goal.invariant-loop-other
invariant-loop-other l = Gathering l.fn.turn l.seats.items l.seat

abbrev pub decreases-loop-other : goal.decreases-loop-other
decreases-loop-other l = vec_len l.seats
