use Rattle.std.proofs.Common.{◌≡◌}
use Rattle.test_sharing.proofs.boards.prune_up.Given as goal

abbrev pub invariant-loop-gate : goal.invariant-loop-gate
invariant-loop-gate l = record { pruner : l.pruner.board ≡ l.board; own : l.own.board ≡ l.board; gate : l.pruner.known.gate ≡ l.gate }
