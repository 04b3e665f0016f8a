-- One script over a pass of a shared store: the result of a line.
use Rattle.std.specs.Prelude.{◌≡◌, ◌⊎◌, ℕ, ◌<◌, ◌+◌, ◌-◌, Bool, true, false, if◌then◌else◌, is_some, List, [], ◌∷◌, ◌++◌, map, take, length, slice_index_or, Option, Some, None, option_map, IfSome, IsTrue}
use Rattle.jf_path.specs.Limits.{max_pins}
use Rattle.jf_model.specs.States.{State}
use Rattle.jf_model.specs.Entries.{replay, owner_of}
use Rattle.jf_model.specs.declared.entries.Entry.{Entry}
use Rattle.jf_node.specs.SnapshotValue.{SnapshotValue}
use Rattle.jf_board.specs.Rule.{hold_at}
use Rattle.jf_turn.specs.Lists.{HasElement, StartsWith}
use Rattle.jf_store.specs.declared.event.Event.{Event}
use Rattle.jf_store.specs.declared.event.Event.TheVariants.{Done, Mark}
use Rattle.jf_store.specs.Events.{entries_among, is_marked}
use Rattle.jf_store.specs.Starts.{Start}
use Rattle.jf_store.specs.Ledgers.{state_after_events}
use Rattle.jf_store.specs.Floors.{IsMet, AreMet}
use Rattle.jf_store.specs.Passes.{Pass, IsPinned, OthersAlone, SeesOwn}
use Rattle.jf_answers.specs.Own.{Own, begun_session, version_pinned_at}
use Rattle.jf_answers.specs.Answers.{answer}
use Rattle.jf_answers.specs.Runs.{answer_text}
use Rattle.jf_answers.specs.OwnLines.{is_own_line, pin_of}
use Rattle.jf_answers.specs.Explains.{Timeline, IsAmong, LineReply, IsAnswered, GivesEntry, answer_with, floor_in, places_owned}

-- what a session shows: its pass, what it keeps for itself, and whether it is over
pub record Session : Type 0 where
  pub pass : Pass
  pub own : Own
  pub over : Bool

-- the session over a pass that pins nothing, before its first line
abbrev pub new_session : Pass → Session
new_session p = record { pass = p; own = begun_session p.number; over = false }

-- the entries that a pass has seen
abbrev pub seen_by : Pass → List Entry
seen_by p = entries_among p.seen

-- the versions of the snapshots that are pinned
abbrev pub pinned_versions : List (Option SnapshotValue) → List (Option ℕ)
pinned_versions ss = map (λ s. option_map (λ t. t.version) s) ss

-- the pins that the session keeps for itself are those that its pass holds on the board: there are eight, and each version is confirmed there
pub record HoldsPins (s : Session) : Type 0 where
  pub versions : s.own.pins ≡ pinned_versions s.pass.pinned
  pub eight : length s.pass.pinned ≡ max_pins
  pub board : (i : ℕ) → i < max_pins → IsPinned (slice_index_or s.pass.pinned i None) (hold_at s.pass.place i)

-- ---- what a history is to the session
-- what a pass has seen, as a history; lines of the store's sessions ask to pin these versions
abbrev pub timeline : Start → List ℕ → List Event → Timeline
timeline start pins events = record { start = start.state; entries = entries_among events; pins = pins }

-- the floor of each event is its bound, or one of these versions
abbrev pub HaveMet : List ℕ → Start → List Event → Type 0
HaveMet pins start events = AreMet (λ pin. IsAmong pins pin.1) start.state events

-- the session has pinned the version
abbrev pub HasPinned : Own → ℕ → Type 0
HasPinned own version = (place : ℕ) × (version_pinned_at own place ≡ Some version)

-- over a state, the floor of the session's entry, if it retires versions, is the bound, or a lower version that is said to be pinned by a pass of the store; if that is the session's own pass, the session has pinned it
abbrev pub HeldFloor : Start → Own → State → Entry → Type 0
HeldFloor start own s e = IsMet (λ pin. (pin.0 < start.passes) × (pin.0 ≡ own.number → HasPinned own pin.1)) s e

-- ---- a line
-- the pass has seen more, and may hold other pins; each version that it announced more is the one that the line names
pub record FollowsLine (old new : Pass) (line : List ℕ) : Type 0 where
  pub begins : StartsWith new.seen old.seen
  pub same : new ≡ record old { seen = new.seen; place = new.place; pinned = new.pinned }
  pub announced : (version : ℕ) → HasElement new.place.announced version → HasElement old.place.announced version ⊎ (pin_of line ≡ Some version)

-- the place of the entry that a line gave
abbrev pub entry_place : LineReply → List ℕ
entry_place r = if is_some r.entry then r.number ∷ [] else []

-- the line was answered over what the pass has then seen. Its entry, if it gave one, is the last of that, and no other entry of the session is new
pub record HasReplied (start : Start) (old new : Session) (line : List ℕ) (r : LineReply) : Type 0 where
  pub follows : FollowsLine old.pass new.pass line
  pub unmarked : is_marked new.pass.seen ≡ false
  pub pins : HoldsPins new
  pub own : new.own ≡ r.own
  pub number : r.number ≡ length (seen_by new.pass)
  pub answered : (pins : List ℕ) → HaveMet pins start new.pass.seen → IsAnswered (timeline start pins new.pass.seen) old.own (length (seen_by old.pass)) line r
  pub held : IfSome r.entry (HeldFloor start old.own (replay start.state (take (r.number - 1) (seen_by new.pass))))
  pub places : places_owned old.pass.number 0 (seen_by new.pass) ≡ places_owned old.pass.number 0 (seen_by old.pass) ++ entry_place r

-- the disk failed in what the line asked for: the pass set the mark, and the line gives its entry over all before it
pub record IsTry (start : Start) (old new : Session) (line : List ℕ) : Type 0 where
  pub attempt : Entry
  pub before : List Event
  pub sees : SeesOwn old.pass new.pass before (Mark old.pass.number attempt)
  pub gives : (pins : List ℕ) → HaveMet pins start new.pass.seen → GivesEntry (timeline start pins before) (state_after_events start before) old.own line attempt
  pub held : HeldFloor start old.own (state_after_events start before) attempt
  pub own : new.own ≡ old.own

-- nothing was done at the line, though the pass may have seen more
pub record HasDoneNothing (old new : Session) (line : List ℕ) : Type 0 where
  pub follows : FollowsLine old.pass new.pass line
  pub others : OthersAlone old.pass new.pass.seen
  pub pins : new.pass.pinned ≡ old.pass.pinned
  pub holds : HoldsPins new
  pub own : new.own ≡ old.own

-- the pass met the mark of an earlier call, at a line that asks the store
pub record IsBroken (old new : Session) (line : List ℕ) : Type 0 where
  pub idle : HasDoneNothing old new line
  pub marked : is_marked new.pass.seen ≡ true
  pub asks : is_own_line line ≡ false

-- ---- replies over what a pass has seen
-- the reply to a line that gives no entry
abbrev pub look_reply : Start → Session → Pass → List ℕ → LineReply
look_reply start old new line =
    let a = answer (state_after_events start new.seen) old.own line in
    record { number = length (seen_by new); text = answer_text (length (seen_by new)) a; entry = None; own = a.own }

-- the reply to a line that gives an entry after these events
abbrev pub change_reply : Start → Session → List Event → Entry → List ℕ → LineReply
change_reply start old before e line =
    let a = answer_with (floor_in e) (state_after_events start before) old.own line in
    record { number = length (entries_among before) + 1; text = answer_text (length (entries_among before) + 1) a; entry = Some e; own = a.own }

-- a line that gives no entry was done, over what the pass has then seen; none of that is new if the line asks nothing of the store
pub record HasLooked (start : Start) (old new : Session) (line : List ℕ) : Type 0 where
  pub follows : FollowsLine old.pass new.pass line
  pub others : OthersAlone old.pass new.pass.seen
  pub unmarked : is_marked new.pass.seen ≡ false
  pub quiet : (answer (state_after_events start new.pass.seen) old.own line).entry ≡ None
  pub own : new.own ≡ (answer (state_after_events start new.pass.seen) old.own line).own
  pub pins : HoldsPins new
  pub by_itself : IsTrue (is_own_line line) → new.pass.seen ≡ old.pass.seen

-- a line that gives an entry was done: the entry is the pass's next event
pub record HasChanged (start : Start) (old new : Session) (before : List Event) (e : Entry) (line : List ℕ) : Type 0 where
  pub sees : SeesOwn old.pass new.pass before (Done e)
  pub numbers : old.own.number ≡ old.pass.number
  pub owned : owner_of e ≡ old.own.number
  pub gives : (pins : List ℕ) → HaveMet pins start new.pass.seen → GivesEntry (timeline start pins new.pass.seen) (state_after_events start before) old.own line e
  pub held : HeldFloor start old.own (state_after_events start before) e
  pub own : new.own ≡ (answer_with (floor_in e) (state_after_events start before) old.own line).own
  pub pins : HoldsPins new
