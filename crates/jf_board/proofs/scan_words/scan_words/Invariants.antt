use Rattle.std.proofs.Common.{◌≡◌}
use Rattle.jf_board.specs.States.{pruner_of, IsPruner}
use Rattle.jf_board.specs.Scans.{Scans}
use Rattle.jf_board.proofs.scan_words.scan_words.Given as goal

abbrev pub invariant-loop-k : goal.invariant-loop-k
invariant-loop-k l = record { table : l.seat.table_id ≡ l.initial.seat.table_id; pruner : IsPruner l.seat; scans : Scans (pruner_of l.initial.seat.me.0) (pruner_of l.seat.me.0) l.k l.low l.held }
