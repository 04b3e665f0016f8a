use Rattle.std.proofs.Common.{◌≡◌, ◌+◌, ◌*◌, ◌≤◌, length}
use Rattle.jf_path.specs.Limits.{max_pins, max_sessions}
use Rattle.jf_board.specs.States.{pruner_of, IsPruner, AreNewPlaces}
use Rattle.jf_board.proofs.opening.new_places.Given as goal

abbrev pub invariant-loop : goal.invariant-loop
invariant-loop l = record {
  table : l.seat.table_id ≡ l.initial.seat.table_id;
  pruner : IsPruner l.seat;
  known : pruner_of l.seat.me.0 ≡ record (pruner_of l.initial.seat.me.0) { count = length l.places.items };
  size : max_pins * l.end + 3 ≡ l.board.words;
  few : l.end ≤ max_sessions;
  many : length l.places.items ≡ l.counter;
  new : AreNewPlaces l.board l.places.items 0;
}
