use Rattle.std.proofs.Common.{◌≡◌}
use Rattle.test_sharing.proofs.boards.pin_from.Given as goal

abbrev pub invariant-loop : goal.invariant-loop
invariant-loop l = l.place.board ≡ l.initial.place.board
