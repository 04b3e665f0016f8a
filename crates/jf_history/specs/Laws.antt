-- Laws on sessions over passes.
use Rattle.std.specs.Prelude.{◌≡◌, ℕ, ◌<◌, false, List, [], ◌∷◌, ◌++◌, length, Option, Some}
use Rattle.jf_disk.specs.Disk.{History}
use Rattle.jf_model.specs.States.{State}
use Rattle.jf_model.specs.declared.entries.Entry.{Entry}
use Rattle.jf_engine.specs.Engines.{Engine}
use Rattle.jf_store.specs.declared.event.Event.{Event}
use Rattle.jf_store.specs.Events.{attempt_of, is_marked}
use Rattle.jf_store.specs.Starts.{Start}
use Rattle.jf_store.specs.Ledgers.{AreEvents}
use Rattle.jf_store.specs.Passes.{Store, Pass, Sees, SeesOwn, new_pass}
use Rattle.jf_store.specs.Closing.{IsClosed}
use Rattle.jf_answers.specs.Own.{Own, begun_session}
use Rattle.jf_answers.specs.Runs.{answers}
use Rattle.jf_answers.specs.Explains.{LineReply, AreAnswered, ExplainsAnswers, IsAttempt, own_after_replies, text_in, timeline_of}
use Rattle.jf_history.specs.Sessions.{Session, HoldsPins, new_session, seen_by, HasReplied, IsTry, IsBroken, HasLooked, HasChanged, look_reply, change_reply}
use Rattle.jf_history.specs.Runs.{HasAnswered, EndsBy, HasRunOver}
use Rattle.jf_history.specs.Alone.{AnswersAlone, IsTried, TriesAlone, RanAlone, ServedAlone}
use Rattle.jf_history.specs.Sparing.{SparesPinsSince}
use Rattle.jf_history.specs.Serving.{SessionOutcome, IsServed, AreServed, FailedIn, scripts_of, replies_of, passes_of}
use Rattle.jf_history.specs.declared.end.End.{End}
use Rattle.jf_history.specs.declared.end.End.TheVariants as end

-- ---- from line to line
-- what was answered stays so if entries follow
abbrev pub AnswersStay : Type 0
AnswersStay = (s : State) (pins : List ℕ) (es more : List Entry) (own : Own) (seen : ℕ) (ls : List (List ℕ)) (rs : List LineReply)
    → AreAnswered (record { start = s; entries = es; pins = pins }) own seen ls rs → AreAnswered (record { start = s; entries = es ++ more; pins = pins }) own seen ls rs

-- a line that gives no entry is replied to
abbrev pub LooksReply : Type 0
LooksReply = (start : Start) (old new : Session) (line : List ℕ) → HasLooked start old new line → HasReplied start old new line (look_reply start old new.pass line)

-- and so is one that gives an entry
abbrev pub ChangesReply : Type 0
ChangesReply = (start : Start) (old new : Session) (before : List Event) (e : Entry) (line : List ℕ) → HasChanged start old new before e line → HasReplied start old new line (change_reply start old before e line)

-- a session that begins over a pass has answered no line
abbrev pub NoneAnswered : Type 0
NoneAnswered = (start : Start) (p : Pass) → is_marked p.seen ≡ false → HoldsPins (new_session p) → HasAnswered start p (new_session p) [] []

-- a line more
abbrev pub OneMoreAnswered : Type 0
OneMoreAnswered = (start : Start) (old : Pass) (mid new : Session) (ls : List (List ℕ)) (rs : List LineReply) (line : List ℕ) (r : LineReply)
    → HasAnswered start old mid ls rs → HasReplied start mid new line r → HasAnswered start old new (ls ++ line ∷ []) (rs ++ r ∷ [])

-- ---- a store of one pass
-- a look finds nothing that the pass had not seen
abbrev pub OnePassSees : Type 0
OnePassSees = (start : Start) (old new : Pass) → start.passes ≡ 1 → old.number < start.passes → AreEvents start new.seen → Sees old new → new ≡ old

-- a change follows just what the pass had seen
abbrev pub OnePassAdds : Type 0
OnePassAdds = (start : Start) (old new : Pass) (before : List Event) (x : Event) → start.passes ≡ 1 → old.number < start.passes → AreEvents start new.seen → SeesOwn old new before x → before ≡ old.seen

-- when the store is closed, its history is what the pass has seen
abbrev pub OnePassCloses : Type 0
OnePassCloses = (start : Start) (p : Pass) (entries : List Entry) (engine : Engine) → start.passes ≡ 1 → p.number < start.passes → (closed : IsClosed start (p ∷ []) entries engine) → closed.events ≡ p.seen

-- a session answers as one by itself, pins and prunings included
abbrev pub OneSessionIsAlone : Type 0
OneSessionIsAlone = (store : Store) (now : Session) (ls : List (List ℕ)) (rs : List LineReply) → store.start.passes ≡ 1 → store.start.state.count ≡ 0 → AreEvents store.start now.pass.seen
    → HasAnswered store.start (new_pass store 0) now ls rs → AnswersAlone store.start.state now ls rs

-- if the disk failed, the attempt is the entry that the line gives after these answers
abbrev pub OneSessionTries : Type 0
OneSessionTries = (store : Store) (mid last : Session) (ls : List (List ℕ)) (rs : List LineReply) (line : List ℕ) → store.start.passes ≡ 1 → store.start.state.count ≡ 0 → AreEvents store.start last.pass.seen
    → HasAnswered store.start (new_pass store 0) mid ls rs → IsTry store.start mid last line → IsTried (answers store.start.state ls) line (attempt_of last.pass.seen)

-- no mark of an earlier call is met
abbrev pub OneSessionIsNeverBroken : Type 0
OneSessionIsNeverBroken = (store : Store) (mid last : Session) (ls : List (List ℕ)) (rs : List LineReply) (line : List ℕ) → store.start.passes ≡ 1 → AreEvents store.start last.pass.seen
    → HasAnswered store.start (new_pass store 0) mid ls rs → IsBroken mid last line → ⊥

-- a session that ends after these lines answered them as one by itself, and if the disk failed, the attempt is the entry that the next line gives
abbrev pub OneEndIsAlone : Type 0
OneEndIsAlone = (store : Store) (e : End) (mid last : Session) (ls : List (List ℕ)) (rs : List LineReply) (next : Option (List ℕ)) → store.start.passes ≡ 1 → store.start.state.count ≡ 0 → AreEvents store.start last.pass.seen
    → HasAnswered store.start (new_pass store 0) mid ls rs → EndsBy e store.start mid last next → AnswersAlone store.start.state last ls rs × TriesAlone e (answers store.start.state ls) next (attempt_of last.pass.seen)

-- a whole run
abbrev pub OneRunIsAlone : Type 0
OneRunIsAlone = (store : Store) (e : End) (new : Pass) (rest rest' text text' : Option (List ℕ)) → store.start.passes ≡ 1 → store.start.state.count ≡ 0 → AreEvents store.start new.seen
    → HasRunOver e store.start (new_pass store 0) new rest rest' text text' → RanAlone e store.start.state (seen_by new) (attempt_of new.seen) rest rest' text text'

-- ---- a store that was closed
-- its history explains all its sessions
abbrev pub ClosedExplains : Type 0
ClosedExplains = (store : Store) (ss : List SessionOutcome) (out_of_memory : List ℕ) (entries : List Entry) (engine : Engine) → store.start.passes ≡ length ss → IsClosed store.start (passes_of ss) entries engine
    → AreServed store out_of_memory 0 ss → ExplainsAnswers store.start.state entries (scripts_of ss) (replies_of ss) out_of_memory

-- if the disk failed in a session, there is an attempt, and it is that of the session's first line without a reply
abbrev pub ClosedTries : Type 0
ClosedTries = (store : Store) (before after : List SessionOutcome) (s : SessionOutcome) (out_of_memory : List ℕ) (entries : List Entry) (engine : Engine) → store.start.passes ≡ length (before ++ s ∷ after)
    → (closed : IsClosed store.start (passes_of (before ++ s ∷ after)) entries engine) → AreServed store out_of_memory 0 (before ++ s ∷ after) → s.how ≡ end.DiskFault
    → (e : Entry) × (attempt_of closed.events ≡ Some e) × IsAttempt (timeline_of store.start.state entries (scripts_of (before ++ s ∷ after))) (length before) s.script s.replies e

-- if there is an attempt, the disk failed in the session of which it is
abbrev pub ClosedBlames : Type 0
ClosedBlames = (store : Store) (ss : List SessionOutcome) (out_of_memory : List ℕ) (entries : List Entry) (engine : Engine) (e : Entry) → store.start.passes ≡ length ss
    → (closed : IsClosed store.start (passes_of ss) entries engine) → AreServed store out_of_memory 0 ss → attempt_of closed.events ≡ Some e → FailedIn store.start.state entries ss e

-- a session that was alone is that of a session by itself
abbrev pub OneServedIsAlone : Type 0
OneServedIsAlone = (store : Store) (s : SessionOutcome) (out_of_memory : List ℕ) (entries : List Entry) (engine : Engine) → store.start.passes ≡ 1 → store.start.state.count ≡ 0 → s.pass.number ≡ 0 → (s.how ≡ end.WriteFault → ⊥)
    → (closed : IsClosed store.start (s.pass ∷ []) entries engine) → IsServed store out_of_memory 0 s → ServedAlone s.how store.start.state s.script entries (attempt_of closed.events) (text_in s.replies)

-- each image left since it began represents versions whose floor is above no version pinned by a session after its replies
abbrev pub ClosedSparesPins : Type 0
ClosedSparesPins = (store : Store) (before after : List SessionOutcome) (s : SessionOutcome) (out_of_memory : List ℕ) (entries : List Entry) (engine : Engine) → IsClosed store.start (passes_of (before ++ s ∷ after)) entries engine
    → (served : IsServed store out_of_memory (length before) s) → (h : History) → engine.history ≡ Some h → SparesPinsSince store.start.moment h (own_after_replies (begun_session (length before)) served.had)
