-- A line that reads the head, answered by a look.
use Rattle.std.proofs.Common.{◌≡◌, ◌∙◌, inl, ℕ, true, false, Some, List, ◌∷◌, ◌++◌, length, refl, sym, ap, ap₂, subst}
use Rattle.std.specs.Prelude.{Ok, Err}
use Rattle.jf_hash.specs.Maps.{Map}
use Rattle.jf_model.specs.Versions.{newest}
use Rattle.jf_model.specs.States.{State}
use Rattle.jf_store.specs.declared.look.Look.{Look}
use Rattle.jf_store.specs.Events.{is_marked}
use Rattle.jf_store.specs.Starts.{Start}
use Rattle.jf_store.specs.Ledgers.{AreEvents, state_after_events}
use Rattle.jf_store.specs.Passes.{Sees}
use Rattle.jf_script.specs.declared.command.Base.TheVariants as base
use Rattle.jf_script.specs.declared.command.Question.{Question}
use Rattle.jf_script.specs.declared.command.Command.TheVariants as command
use Rattle.jf_answers.specs.Answers.{Answer}
use Rattle.jf_history.specs.Sessions.{Session, HoldsPins, seen_by}
use Rattle.jf_session.specs.declared.stop.Stop.{Stop}
use Rattle.jf_session.specs.declared.stop.Stop.TheVariants as stop
use Rattle.jf_session.specs.Questions.{question_reply}
use Rattle.jf_session.specs.Answering.{StopsAt}
use Rattle.jf_session.specs.PreparedReplies.{AsksHead, question_text, ArePreparedFor, ArePreparedAt, HasLookedAtHead}
use Rattle.jf_session.specs.Steps.{DoneByLook, StopsFor, IsSoundSession}
use Rattle.jf_session.specs.Taking.{RepliesWith, Makes, DoesLine}
use Rattle.jf_session.proofs.BaseLaws.{Sees-self}
use Rattle.jf_session.proofs.OfLines.{line_of, look_of, stops_of, unmarked_of}
use Rattle.jf_session.proofs.ReadLaws.{ReadsMap-read}
use Rattle.jf_session.proofs.Refused.{follows-Sees}

-- ---- by what the pass has then seen
module _ (start : Start) (old new : Session) (sees : Sees old.pass new.pass) (own : new.own ≡ old.own) (unmarked : is_marked new.pass.seen ≡ false) (pins : HoldsPins new) where
  abbrev s : State
  s = state_after_events start new.pass.seen

  -- the question was answered over the map of the head
  DoneByLook-head : (q : Question) → DoneByLook start old new (command.Read base.Head q) (question_reply q (newest s.all)).0 (question_reply q (newest s.all)).1
  DoneByLook-head q =
      let is = (ReadsMap-read s old.own base.Head q).reply_is refl in
      record {
        follows = follows-Sees old.pass new.pass (command.Read base.Head q) sees;
        others = sees.others;
        unmarked = unmarked;
        quiet = ap (λ (a : Answer). a.entry) is;
        own = own ∙ sym (ap (λ (a : Answer). a.own) is);
        reply = sym (ap (λ (a : Answer). a.reply) is);
        block_is = sym (ap (λ (a : Answer). a.block) is);
        by_itself = λ itself. absurd (let e : true ≡ false = sym itself in cc);
      }

  -- so the line that asked it is replied to with this text
  pub RepliesWith-head : (line text : List ℕ) (q : Question) → AsksHead line q → text ≡ question_text (newest s.all) (length (seen_by new.pass)) q → RepliesWith start old line new text
  RepliesWith-head line text q asks is =
      let c = command.Read base.Head q in
      let r = look_of line c (line_of line c asks.short asks.reads) start old new _ _ pins (DoneByLook-head q) in
      (r.0, r.1, is ∙ r.2)

-- the look that the session has taken gives it
pub RepliesWith-look : (start : Start) (old new : Session) (l : Look) (n : ℕ) → HasLookedAtHead start old new l → n ≡ length (seen_by new.pass) → HoldsPins new → (line : List ℕ) (q : Question) → AsksHead line q → RepliesWith start old line new (question_text l.head.map n q)
RepliesWith-look start old new l n looked seen pins line q asks =
    RepliesWith-head start old new looked.sees looked.own looked.unmarked pins line (question_text l.head.map n q) q asks (ap₂ (λ (m : Map) (k : ℕ). question_text m k q) looked.look.map seen)

-- ---- as a step
module _ (start : Start) (old : Session) (line out out' : List ℕ) (is : old.pass.start ≡ Some start) (begun : old.over ≡ false) where
  pub DoesLine-replied : (new : Session) (text : List ℕ) → new.over ≡ false → AreEvents start new.pass.seen → out' ≡ out ++ text → RepliesWith start old line new text → DoesLine old line out (Ok tt) new out'
  DoesLine-replied new text goes events appended replied = (text, appended, record { start = start; start_is = is; begun = begun; over = goes; events = events; makes = replied })

  pub makes_stopped : (new : Session) (why : Stop) → StopsAt start old new line why → Makes start old line new (Err why)
  makes_stopped new stop.DiskFault t = t
  makes_stopped new stop.Broken t = t
  makes_stopped new stop.Memory t = inl t

  -- the look failed
  pub DoesLine-stopped : (new : Session) (q : Question) (why : Stop) → AsksHead line q → new.over ≡ true → HoldsPins new → AreEvents start new.pass.seen → out' ≡ out → StopsFor start old new (command.Read base.Head q) why → DoesLine old line out (Err why) new out'
  DoesLine-stopped new q why asks over pins events silent t =
      let c = command.Read base.Head q in (
        silent,
        record {
          start = start;
          start_is = is;
          begun = begun;
          over = over;
          events = events;
          makes = makes_stopped new why (stops_of line c (line_of line c asks.short asks.reads) start old new why pins t);
        },
      )

-- ---- a reply that was prepared
-- the first is the reply to its line while the pass sees no more
pub DoesLine-prepared : (start : Start) (s : Session) (line out out' : List ℕ) → s.pass.start ≡ Some start → s.over ≡ false → IsSoundSession s → HoldsPins s → AreEvents start s.pass.seen
    → (rs rest : List (List ℕ × List ℕ)) → ArePreparedAt s.pass rs → (l text : List ℕ) → rs ≡ (l, text) ∷ rest → l ≡ line → out' ≡ out ++ text → DoesLine s line out (Ok tt) s out'
DoesLine-prepared start s line out out' is goes sound pins events rs rest prepared l text first same appended =
    let m = newest (state_after_events start s.pass.seen).all in
    let n = length (seen_by s.pass) in
    let all : ArePreparedFor m n ((l, text) ∷ rest) = subst (λ (x : List (List ℕ × List ℕ)). ArePreparedFor m n x) first (prepared start is) in
    let reply = all.0 in
    let asks : AsksHead line reply.question = subst (λ x. AsksHead x reply.question) same reply.asks in
    DoesLine-replied start s line out out' is goes s text goes events appended (
    RepliesWith-head start s s (Sees-self s.pass) refl (unmarked_of s sound goes) pins line text reply.question asks reply.text_is)
