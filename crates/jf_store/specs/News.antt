-- The look that is shown to all passes of a store.
use Rattle.std.specs.Prelude.{◌≡◌, false, Some}
use Rattle.jf_turn.specs.Seats.{NoteState}
use Rattle.jf_store.specs.declared.event.Event.{Event}
use Rattle.jf_store.specs.declared.look.Look.{Look}
use Rattle.jf_store.specs.Events.{is_marked}
use Rattle.jf_store.specs.Starts.{Start}
use Rattle.jf_store.specs.Ledgers.{AreEvents, state_after_events}
use Rattle.jf_store.specs.Looks.{IsLook}
use Rattle.jf_store.specs.Passes.{Store}

-- the look was taken over the events of a note of the store's turn, among which there is no mark
pub record IsShownLook (s : Store) (n : NoteState Event Start) (l : Look) : Type 0 where
  pub turn : n.turn ≡ s.id
  pub start : n.start ≡ Some s.start
  pub events : AreEvents s.start n.seen
  pub unmarked : is_marked n.seen ≡ false
  pub look : IsLook (state_after_events s.start n.seen) l
