use Rattle.std.proofs.Common.{◌≡◌}
use Rattle.test_sharing.proofs.boards.pin_and_look.Given as goal

abbrev pub invariant-loop : goal.invariant-loop
invariant-loop l = l.place.board ≡ l.board
