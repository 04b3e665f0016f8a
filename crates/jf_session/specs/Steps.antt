-- The result of a command for a session over a pass, and with what reply.
use Rattle.std.specs.Prelude.{◌≡◌, ◌⊎◌, ℕ, ◌≤◌, Bool, IsTrue, false, true, List, [], ◌++◌, Some, None, slice_index_or, Result, Ok, Err}
use Rattle.jf_hash.specs.Maps.{Batch}
use Rattle.jf_model.specs.Versions.{map_of}
use Rattle.jf_model.specs.States.{State}
use Rattle.jf_model.specs.Entries.{owner_of, timeless}
use Rattle.jf_model.specs.declared.entries.Entry.{Entry}
use Rattle.jf_node.specs.SnapshotValue.{SnapshotValue}
use Rattle.jf_turn.specs.Lists.{HasElement, StartsWith}
use Rattle.jf_store.specs.declared.event.Event.{Event}
use Rattle.jf_store.specs.declared.event.Event.TheVariants.{Done, Mark}
use Rattle.jf_store.specs.Events.{is_marked}
use Rattle.jf_store.specs.Starts.{Start}
use Rattle.jf_store.specs.Ledgers.{state_after_events}
use Rattle.jf_store.specs.Passes.{Store, Pass, IsPassOf, OthersAlone, SeesOwn}
use Rattle.jf_script.specs.declared.command.Command.{Command}
use Rattle.jf_script.specs.declared.reply.Reply.{Reply}
use Rattle.jf_answers.specs.Own.{Own}
use Rattle.jf_answers.specs.Answers.{Answer, answer_command}
use Rattle.jf_answers.specs.OwnLines.{is_own_command, pin_of_command}
use Rattle.jf_answers.specs.Explains.{Timeline, answered_with_floor, floor_in, HasFloor}
use Rattle.jf_history.specs.Sessions.{Session, HaveMet, HeldFloor, timeline, pinned_versions}
use Rattle.jf_session.specs.declared.stop.Stop.{Stop}
use Rattle.jf_session.specs.declared.stop.Stop.TheVariants as stop

-- ---- what holds of every session
-- a session over a pass with what is pending; its pins are those of its pass
abbrev pub session_of : Pass → Batch → Bool → Session
session_of pass pending over = record { pass = pass; own = record { number = pass.number; pending = pending; pins = pinned_versions pass.pinned }; over = over }

-- what is pinned is the map of its version, among those that the pass has seen
pub record TellsMap (start : Start) (events : List Event) (s : SnapshotValue) : Type 0 where
  pub below : s.version ≤ (state_after_events start events).all.head
  pub map_is : s.map ≡ map_of (state_after_events start events).all s.version

-- so it is at each place of a pass
abbrev pub PinsTell : Pass → Type 0
PinsTell p = (start : Start) → p.start ≡ Some start → (i : ℕ) (s : SnapshotValue) → slice_index_or p.pinned i None ≡ Some s → TellsMap start p.seen s

-- a session that isn't over has seen no mark, and its pins tell the maps of their versions
pub record IsSoundSession (s : Session) : Type 0 where
  pub whole : (s.over ≡ true) ⊎ (is_marked s.pass.seen ≡ false)
  pub pins : PinsTell s.pass

-- ---- answers to commands
-- the answer to a command, with this floor if it retires versions
abbrev pub command_answer_with : ℕ → State → Own → Command → Answer
command_answer_with floor s own c = answered_with_floor floor s own (answer_command s own c) (answer_command s own c).entry

-- over a state, a command gives an entry; the moment of the entry is free
pub record GivesFor (h : Timeline) (s : State) (own : Own) (c : Command) (e : Entry) : Type 0 where
  pub same : (command_answer_with (floor_in e) s own c).entry ≡ Some (timeless e)
  pub floor : HasFloor h s own e

-- ---- the result of a command for a session
-- the pass has seen more, and may hold other pins; each version that it announced more is the one that the command names
pub record FollowsCommand (old new : Pass) (c : Command) : Type 0 where
  pub begins : StartsWith new.seen old.seen
  pub same : new ≡ record old { seen = new.seen; place = new.place; pinned = new.pinned }
  pub announced : (version : ℕ) → HasElement new.place.announced version → HasElement old.place.announced version ⊎ (pin_of_command (Some c) ≡ Some version)

-- a command that gives no entry was done over what the pass has then seen, with this reply and this block after it; nothing of that is new if the command asks nothing of the store
pub record DoneByLook (start : Start) (old new : Session) (c : Command) (r : Reply) (block : List ℕ) : Type 0 where
  pub follows : FollowsCommand old.pass new.pass c
  pub others : OthersAlone old.pass new.pass.seen
  pub unmarked : is_marked new.pass.seen ≡ false
  pub quiet : (answer_command (state_after_events start new.pass.seen) old.own c).entry ≡ None
  pub own : new.own ≡ (answer_command (state_after_events start new.pass.seen) old.own c).own
  pub reply : r ≡ (answer_command (state_after_events start new.pass.seen) old.own c).reply
  pub block_is : block ≡ (answer_command (state_after_events start new.pass.seen) old.own c).block
  pub by_itself : IsTrue (is_own_command c) → new.pass.seen ≡ old.pass.seen

-- a command was done, and its entry is the pass's next event; it has no block
pub record DoneByEntry (start : Start) (old new : Session) (c : Command) (r : Reply) (block : List ℕ) : Type 0 where
  pub before : List Event
  pub event : Entry
  pub sees : SeesOwn old.pass new.pass before (Done event)
  pub owned : owner_of event ≡ old.own.number
  pub gives : (pins : List ℕ) → HaveMet pins start new.pass.seen → GivesFor (timeline start pins new.pass.seen) (state_after_events start before) old.own c event
  pub held : HeldFloor start old.own (state_after_events start before) event
  pub own : new.own ≡ (command_answer_with (floor_in event) (state_after_events start before) old.own c).own
  pub reply : r ≡ (command_answer_with (floor_in event) (state_after_events start before) old.own c).reply
  pub block_is : block ≡ (command_answer_with (floor_in event) (state_after_events start before) old.own c).block

-- a command was done, and has this reply, and this block after it
abbrev pub IsDoneAs : Start → Session → Session → Command → Reply → List ℕ → Type 0
IsDoneAs start old new c r block = DoneByLook start old new c r block ⊎ DoneByEntry start old new c r block

-- the disk failed in what a command asked for
pub record TriedFor (start : Start) (old new : Session) (c : Command) : Type 0 where
  pub attempt : Entry
  pub before : List Event
  pub sees : SeesOwn old.pass new.pass before (Mark old.pass.number attempt)
  pub gives : (pins : List ℕ) → HaveMet pins start new.pass.seen → GivesFor (timeline start pins before) (state_after_events start before) old.own c attempt
  pub held : HeldFloor start old.own (state_after_events start before) attempt
  pub own : new.own ≡ old.own

-- nothing was done for a command, though the pass may have seen more
pub record NotDone (old new : Session) (c : Command) : Type 0 where
  pub follows : FollowsCommand old.pass new.pass c
  pub others : OthersAlone old.pass new.pass.seen
  pub pins : new.pass.pinned ≡ old.pass.pinned
  pub own : new.own ≡ old.own

-- why a command was not done: the disk failed in it; or nothing was done, since the pass saw the mark of an earlier call, or memory ran out
abbrev pub StopsFor : Start → Session → Session → Command → Stop → Type 0
StopsFor start old new c stop.DiskFault = TriedFor start old new c
StopsFor start old new c stop.Broken = NotDone old new c × (is_marked new.pass.seen ≡ true) × (is_own_command c ≡ false)
StopsFor start old new c stop.Memory = NotDone old new c

-- ---- a call for a command
-- the session is over a pass of this store, and has not stopped
pub record IsRunningOn (s : Session) (store : Store) : Type 0 where
  pub own : IsPassOf s.pass store
  pub over : s.over ≡ false

-- the command was done with this reply, which has no block, and the session goes on; or why it was not done
abbrev pub IsObeyed : Start → Session → Session → Command → Result Reply Stop → Type 0
IsObeyed start old new c (Ok r) = IsDoneAs start old new c r [] × (new.over ≡ false)
IsObeyed start old new c (Err why) = StopsFor start old new c why

-- so it is with a block, which was appended to these lines
abbrev pub IsObeyedWith : Start → Session → Session → Command → List ℕ → List ℕ → Result Reply Stop → Type 0
IsObeyedWith start old new c lines lines' (Ok r) = (block : List ℕ) × (lines' ≡ lines ++ block) × IsDoneAs start old new c r block × (new.over ≡ false)
IsObeyedWith start old new c lines lines' (Err why) = StopsFor start old new c why
