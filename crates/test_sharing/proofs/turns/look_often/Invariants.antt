use Rattle.std.proofs.Common.{◌≡◌, None}
use Rattle.jf_turn.specs.Seats.{IsSeatOf}
use Rattle.test_sharing.proofs.turns.look_often.Given as goal

abbrev pub invariant-loop : goal.invariant-loop
invariant-loop g l = record { own : IsSeatOf l.seat l.fn.turn; idle : l.seat.taken ≡ None; numbers : l.seat.numbers ≡ l.initial.seat.numbers }
