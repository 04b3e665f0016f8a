use Rattle.std.proofs.Common.{◌≡◌, None}
use Rattle.jf_turn.specs.Seats.{IsSeatOf}
use Rattle.test_sharing.proofs.turns.write_all.Given as goal

abbrev pub invariant-loop-place : goal.invariant-loop-place
invariant-loop-place g l = record { own : IsSeatOf l.seat l.fn.turn; idle : l.seat.taken ≡ None; numbers : l.seat.numbers ≡ l.initial.seat.numbers }
