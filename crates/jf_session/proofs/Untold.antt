-- What a command lands, and what is written of it.
use Rattle.std.proofs.Common.{◌≡◌, ◌∙◌, inl, inr, ℕ, Bool, true, false, Option, Some, None, List, [], ◌++◌, refl, sym, ap, append-nil}
use Rattle.std.specs.Prelude.{Result, Ok, Err, OnOk, IfErr}
use Rattle.jf_hash.specs.Maps.{Batch}
use Rattle.jf_model.specs.States.{State}
use Rattle.jf_model.specs.Entries.{timeless}
use Rattle.jf_model.specs.declared.entries.Entry.{Entry}
use Rattle.jf_model.specs.declared.entries.Entry.TheVariants as entry
use Rattle.jf_lead.specs.declared.block.LandingBlock.{LandingBlock}
use Rattle.jf_lead.specs.Landings.{entry_blocks, landings_text}
use Rattle.jf_store.specs.declared.fault.StoreFault.{StoreFault}
use Rattle.jf_store.specs.Starts.{Start}
use Rattle.jf_store.specs.Ledgers.{AreEvents, state_after_events}
use Rattle.jf_store.specs.Passes.{Pass, OthersAlone}
use Rattle.jf_script.specs.declared.command.Command.{Command}
use Rattle.jf_script.specs.declared.command.Command.TheVariants as command
use Rattle.jf_script.specs.declared.command.Change.TheVariants as change
use Rattle.jf_script.specs.declared.reply.Refusal.{Refusal}
use Rattle.jf_script.specs.declared.reply.Reply.{Reply}
use Rattle.jf_script.specs.declared.reply.Reply.TheVariants as reply
use Rattle.jf_answers.specs.Own.{Own}
use Rattle.jf_answers.specs.Answers.{Answer, granted_answer, granted_own, own_answer}
use Rattle.jf_answers.specs.Refusals.{refused_by}
use Rattle.jf_answers.specs.Explains.{answered_with_floor, floor_in}
use Rattle.jf_answers.proofs.AnswerLaws.{granted_own-quiet}
use Rattle.jf_history.specs.Sessions.{Session, seen_by}
use Rattle.jf_session.specs.declared.stop.Stop.{Stop}
use Rattle.jf_session.specs.declared.stop.Stop.TheVariants as stop
use Rattle.jf_session.specs.Steps.{FollowsCommand, IsDoneAs, StopsFor, IsObeyed, IsObeyedWith}
use Rattle.jf_session.specs.Leading.{HasLandedMore, AreOfLast}
use Rattle.jf_session.specs.Telling.{is_landing, without_reply, IsLedAs}
use Rattle.jf_session.proofs.MetFloors.{floors_of, met_floors}
use Rattle.jf_session.proofs.OwnLandings.{landed_others, landed_mark, landed_own}
use Rattle.jf_session.proofs.RefusedCalls.{Fails}

-- ---- what a command's entry lands
-- there is an entry, and it is a landing
is_landed : Option Entry → Bool
is_landed None = false
is_landed (Some (entry.Made owner fork parent batch r)) = false
is_landed (Some (entry.Landed owner version how r moment)) = true
is_landed (Some (entry.Dropped owner fork)) = false
is_landed (Some (entry.Retired owner bound floor)) = false
is_landed (Some (entry.Compacted owner generation)) = false

no_blocks : (s : State) (e : Entry) → is_landed (Some (timeless e)) ≡ false → entry_blocks s e ≡ []
unfolding is_landed
no_blocks s (entry.Made owner fork parent batch r) none = refl
no_blocks s (entry.Landed owner version how r moment) none = absurd (cc)
no_blocks s (entry.Dropped owner fork) none = refl
no_blocks s (entry.Retired owner bound floor) none = refl
no_blocks s (entry.Compacted owner generation) none = refl

quiet_lands : (floor : ℕ) (s : State) (own : Own) (a : Answer) → a.entry ≡ None → is_landed (answered_with_floor floor s own a a.entry).entry ≡ false
unfolding is_landed
quiet_lands floor s own a none = ap (λ (o : Option Entry). is_landed (answered_with_floor floor s own a o).entry) none ∙ ap is_landed none

granted_lands : (floor : ℕ) (s : State) (own : Own) (c : Command) → is_landing c ≡ false → is_landed (answered_with_floor floor s own (granted_answer c s own) (granted_answer c s own).entry).entry ≡ false
unfolding is_landed
granted_lands floor s own (command.Own c) other = quiet_lands floor s own (granted_own c s own) (granted_own-quiet c s own)
granted_lands floor s own (command.Read on q) other = refl
granted_lands floor s own (command.ReadFork id q) other = refl
granted_lands floor s own command.Look other = refl
granted_lands floor s own (command.Pin version) other = refl
granted_lands floor s own (command.Change change.Commit) other = absurd (cc)
granted_lands floor s own (command.Change (change.Fork on)) other = refl
granted_lands floor s own (command.Change (change.Land id)) other = absurd (cc)
granted_lands floor s own (command.Change (change.Drop id)) other = refl
granted_lands floor s own (command.Change (change.Prune upto)) other = refl
granted_lands floor s own (command.Change change.Compact) other = refl

-- the answer to a command by why it is refused, if it is
abbrev answer_by : Option Refusal → State → Own → Command → Answer
answer_by o s own c = elim o as (λ x. Answer) [ Some why ↦ own_answer (reply.No why) s own | None ↦ granted_answer c s own ]

answer_lands : (floor : ℕ) (s : State) (own : Own) (c : Command) (o : Option Refusal) → is_landing c ≡ false → is_landed (answered_with_floor floor s own (answer_by o s own c) (answer_by o s own c).entry).entry ≡ false
unfolding is_landed
answer_lands floor s own c None other = granted_lands floor s own c other
answer_lands floor s own c (Some why) other = refl

-- ---- what a command lands
pub landed_follows : (start : Start) (old new : Pass) (c : Command) → FollowsCommand old new c → OthersAlone old new.seen → HasLandedMore start old new []
landed_follows start old new c f others = landed_others start old new (ap (λ (p : Pass). p.number) f.same) f.begins others

-- one that is neither `commit` nor `land` lands nothing
pub landed_other : (start : Start) (old new : Session) (c : Command) (r : Reply) (lines : List ℕ) → is_landing c ≡ false → AreEvents start new.pass.seen → old.own.number ≡ old.pass.number → IsDoneAs start old new c r lines → HasLandedMore start old.pass new.pass []
landed_other start old new c r lines other events numbers (inl l) = landed_follows start old.pass new.pass c l.follows l.others
landed_other start old new c r lines other events numbers (inr d) =
    let s = state_after_events start d.before in
    let g = d.gives (floors_of new.pass.seen) (met_floors start new.pass.seen events) in
    let none = answer_lands (floor_in d.event) s old.own c (refused_by s old.own c) other in
    landed_own start old.pass new.pass d.before d.event d.sees (d.owned ∙ numbers) [] (sym (no_blocks s d.event (sym (ap is_landed g.same) ∙ none))) tt

-- nor does one of which the call failed
pub landed_failed : (start : Start) (p p' : Pass) (pending : Batch) (c : Command) (f : StoreFault) → Fails start p p' pending c f → HasLandedMore start p p' []
landed_failed start p p' pending c f (inl failed) = landed_mark start p p' failed.1.before p.number failed.1.attempt failed.1.follows.sees
landed_failed start p p' pending c f (inr t) = landed_follows start p p' c t.sees.follows t.sees.others

-- ---- what is written
module _ (start : Start) (old new : Session) (c : Command) where
  -- the blocks of what it landed are written, unless memory ran out
  pub led_told : (r : Reply) → IsDoneAs start old new c r [] → new.over ≡ false → (blocks : List LandingBlock) → HasLandedMore start old.pass new.pass blocks → AreOfLast start.state (seen_by new.pass) blocks
      → (told told' : List ℕ) (o : Result (Unit {0}) Stop) → OnOk o (told' ≡ told ++ landings_text blocks) → IfErr o (λ why. (why ≡ stop.Memory) × (told' ≡ told)) → IsLedAs start old new c told told' o
  led_told r done goes blocks landed last told told' (Ok u) ok err = (r, [], done, goes, record { blocks = blocks; landed = landed; appended = ok })
  led_told r done goes blocks landed last told told' (Err stop.DiskFault) ok err = let e : stop.DiskFault ≡ stop.Memory = err.0 in absurd (cc)
  led_told r done goes blocks landed last told told' (Err stop.Broken) ok err = let e : stop.Broken ≡ stop.Memory = err.0 in absurd (cc)
  led_told r done goes blocks landed last told told' (Err stop.Memory) ok err = (inr record { reply = r; lines = []; done = done; blocks = blocks; landed = landed; last = last }, err.1)

  -- nothing is written of one that landed nothing
  led_done : (r : Reply) (lines : List ℕ) → IsDoneAs start old new c r lines → new.over ≡ false → HasLandedMore start old.pass new.pass [] → (told : List ℕ) → IsLedAs start old new c told told (Ok tt)
  led_done r lines done goes landed told = (r, lines, done, goes, record { blocks = []; landed = landed; appended = sym (append-nil told) })

  led_stopped : (why : Stop) → StopsFor start old new c why → (told : List ℕ) → IsLedAs start old new c told told (Err why)
  led_stopped stop.DiskFault t told = (t, refl)
  led_stopped stop.Broken t told = (t, refl)
  led_stopped stop.Memory t told = (inl t, refl)

  pub led_dropped : (r : Result Reply Stop) → IsObeyed start old new c r → HasLandedMore start old.pass new.pass [] → (told : List ℕ) → IsLedAs start old new c told told (without_reply r)
  led_dropped (Ok r) d landed told = led_done r [] d.0 d.1 landed told
  led_dropped (Err why) d landed told = led_stopped why d told

  pub led_other : (lines lines' : List ℕ) → is_landing c ≡ false → AreEvents start new.pass.seen → old.own.number ≡ old.pass.number → (r : Result Reply Stop) → IsObeyedWith start old new c lines lines' r → (told : List ℕ) → IsLedAs start old new c told told (without_reply r)
  led_other lines lines' other events numbers (Ok r) d told = led_done r d.0 d.2 d.3 (landed_other start old new c r d.0 other events numbers d.2) told
  led_other lines lines' other events numbers (Err why) d told = led_stopped why d told
