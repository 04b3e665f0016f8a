use Rattle.std.proofs.Common.{◌≡◌}
use Rattle.test_sharing.proofs.boards.pins_eight.Given as goal

abbrev pub invariant-loop-at : goal.invariant-loop-at
invariant-loop-at l = l.place.board ≡ l.initial.place.board
