-- A line that is a command, and one that is none.
use Rattle.std.proofs.Common.{◌≡◌, inl, inr, ℕ, ◌+◌, true, false, cond, ◌||◌, Option, Some, None, List, [], ◌∷◌, ◌++◌, length, refl, sym, ap, ◌∙◌, append-nil, length-append}
use Rattle.std.specs.Prelude.{Result, Ok, Err, IfOk, IfErr, OnOk}
use Rattle.jf_model.specs.States.{State}
use Rattle.jf_model.specs.declared.entries.Entry.{Entry}
use Rattle.jf_text.specs.Words.{is_long}
use Rattle.jf_script.specs.declared.command.Command.{Command}
use Rattle.jf_script.specs.Commands.{command_of}
use Rattle.jf_script.specs.Replies.{reply_text}
use Rattle.jf_script.specs.declared.reply.Reply.{Reply}
use Rattle.jf_script.specs.declared.reply.Reply.TheVariants as reply
use Rattle.jf_script.specs.declared.reply.Refusal.TheVariants as refusal
use Rattle.jf_store.specs.declared.event.Event.TheVariants.{Done}
use Rattle.jf_store.specs.Events.{entries_among, is_marked}
use Rattle.jf_store.specs.Starts.{Start}
use Rattle.jf_store.specs.Ledgers.{state_after_events}
use Rattle.jf_store.specs.Passes.{Pass}
use Rattle.jf_store.proofs.EventLaws.{entries_of-append}
use Rattle.jf_store.proofs.ClosingLaws.{none_after}
use Rattle.jf_answers.specs.Own.{Own}
use Rattle.jf_answers.specs.Answers.{Answer, answer, answer_command, answer_to, own_answer, too_long}
use Rattle.jf_answers.specs.Runs.{answer_text}
use Rattle.jf_answers.specs.OwnLines.{is_own_line, is_own, is_own_command, pin_of, pin_of_command}
use Rattle.jf_answers.specs.Explains.{Timeline, LineReply, GivesEntry, answered_with_floor, answer_with, floor_in}
use Rattle.jf_history.specs.Sessions.{Session, HoldsPins, FollowsLine, HasReplied, HasLooked, HasChanged, IsTry, HasDoneNothing, look_reply, change_reply, seen_by}
use Rattle.jf_answers.proofs.AnswerLaws.{answer-long}
use Rattle.jf_history.proofs.Replies.{looks_reply, changes_reply}
use Rattle.jf_session.specs.Steps.{IsSoundSession, FollowsCommand, command_answer_with, GivesFor, DoneByLook, DoneByEntry, IsDoneAs, TriedFor, NotDone, StopsFor, IsObeyedWith}
use Rattle.jf_session.specs.Answering.{IsRepliedBy, StopsAt, stopped_session}
use Rattle.jf_session.specs.declared.stop.Stop.{Stop}
use Rattle.jf_session.specs.declared.stop.Stop.TheVariants as stop

-- ---- a line that is a command
-- the line is answered as the command, pins what it pins, and asks the store if it does
pub record IsLineOf (line : List ℕ) (c : Command) : Type 0 where
  pub answers : (s : State) (own : Own) → answer s own line ≡ answer_command s own c
  pub pin : pin_of line ≡ pin_of_command (Some c)
  pub asks : is_own_line line ≡ is_own_command c

pub answer-short : (s : State) (own : Own) (line : List ℕ) (o : Option Command) → is_long line ≡ false → command_of line ≡ o → answer s own line ≡ answer_to o s own
unfolding answer
answer-short s own line o short read = ap (λ b. cond b (too_long s own) (answer_to (command_of line) s own)) short ∙ ap (λ o. answer_to o s own) read

pin-short : (line : List ℕ) (o : Option Command) → is_long line ≡ false → command_of line ≡ o → pin_of line ≡ pin_of_command o
unfolding pin_of
pin-short line o short read = ap (λ b. cond b None (pin_of_command (command_of line))) short ∙ ap pin_of_command read

asks-short : (line : List ℕ) (o : Option Command) → is_long line ≡ false → command_of line ≡ o → is_own_line line ≡ is_own o
unfolding is_own_line
asks-short line o short read = ap (λ b. b || is_own (command_of line)) short ∙ ap is_own read

pub line_of : (line : List ℕ) (c : Command) → is_long line ≡ false → command_of line ≡ Some c → IsLineOf line c
line_of line c short read = record {
  answers = λ s own. answer-short s own line (Some c) short read;
  pin = pin-short line (Some c) short read;
  asks = asks-short line (Some c) short read;
}

module _ (line : List ℕ) (c : Command) (k : IsLineOf line c) where
  with_of : (floor : ℕ) (s : State) (own : Own) → answer_with floor s own line ≡ command_answer_with floor s own c
  with_of floor s own = ap (λ (a : Answer). answered_with_floor floor s own a a.entry) (k.answers s own)

  gives_of : (h : Timeline) (s : State) (own : Own) (e : Entry) → GivesFor h s own c e → GivesEntry h s own line e
  gives_of h s own e g = record { same = ap (λ (a : Answer). a.entry) (with_of (floor_in e) s own) ∙ g.same; floor = g.floor }

  follows_of : (old new : Pass) → FollowsCommand old new c → FollowsLine old new line
  follows_of old new f = record { begins = f.begins; same = f.same; announced = λ version h. elim (f.announced version h) [ inl was ↦ inl was | inr named ↦ inr (k.pin ∙ named) ] }

  module _ (start : Start) (old new : Session) where
    pub look_of : (r : Reply) (block : List ℕ) → HoldsPins new → DoneByLook start old new c r block → IsRepliedBy start old new line r block
    look_of r block pins d =
        let s = state_after_events start new.pass.seen in
        let e = k.answers s old.own in
        let looked : HasLooked start old new line = record {
          follows = follows_of old.pass new.pass d.follows;
          others = d.others;
          unmarked = d.unmarked;
          quiet = ap (λ (a : Answer). a.entry) e ∙ d.quiet;
          own = d.own ∙ sym (ap (λ (a : Answer). a.own) e);
          pins = pins;
          by_itself = λ own. d.by_itself (sym k.asks ∙ own);
        } in (
          look_reply start old new.pass line,
          looks_reply start old new line looked,
          ap (λ x. reply_text (length (seen_by new.pass)) x ++ block) d.reply
              ∙ ap (λ x. reply_text (length (seen_by new.pass)) (answer_command s old.own c).reply ++ x) d.block_is ∙ ap (answer_text (length (seen_by new.pass))) (sym e),
        )

    entry_of : (r : Reply) (block : List ℕ) → old.own.number ≡ old.pass.number → HoldsPins new → DoneByEntry start old new c r block → IsRepliedBy start old new line r block
    entry_of r block numbers pins d =
        let s = state_after_events start d.before in
        let f = floor_in d.event in
        let e = with_of f s old.own in
        let changed : HasChanged start old new d.before d.event line = record {
          sees = d.sees;
          numbers = numbers;
          owned = d.owned;
          gives = λ ps met. gives_of _ s old.own d.event (d.gives ps met);
          held = d.held;
          own = d.own ∙ sym (ap (λ (a : Answer). a.own) e);
          pins = pins;
        } in
        let n : length (seen_by new.pass) ≡ length (entries_among d.before) + 1 =
        ap (λ (p : Pass). length (seen_by p)) d.sees.last ∙ ap (λ (es : List Entry). length es) (entries_of-append d.before (Done d.event ∷ [])) ∙ length-append (entries_among d.before) (d.event ∷ []) in
        let m = length (entries_among d.before) + 1 in (
          change_reply start old d.before d.event line,
          changes_reply start old new d.before d.event line changed,
          ap (λ m. reply_text m r ++ block) n ∙ ap (λ x. reply_text m x ++ block) d.reply ∙ ap (λ x. reply_text m (command_answer_with f s old.own c).reply ++ x) d.block_is ∙ ap (answer_text m) (sym e),
        )

    -- a command that was done is replied to
    pub done_of : (r : Reply) (block : List ℕ) → old.own.number ≡ old.pass.number → HoldsPins new → IsDoneAs start old new c r block → IsRepliedBy start old new line r block
    done_of r block numbers pins d = elim d [ inl l ↦ look_of r block pins l | inr e ↦ entry_of r block numbers pins e ]

    idle_of : HoldsPins new → NotDone old new c → HasDoneNothing old new line
    idle_of holds d = record { follows = follows_of old.pass new.pass d.follows; others = d.others; pins = d.pins; holds = holds; own = d.own }

    try_of : TriedFor start old new c → IsTry start old new line
    try_of d = record {
      attempt = d.attempt;
      before = d.before;
      sees = d.sees;
      gives = λ ps met. gives_of _ (state_after_events start d.before) old.own d.attempt (d.gives ps met);
      held = d.held;
      own = d.own;
    }

    -- and one that was not done stops the session at the line
    pub stops_of : (why : Stop) → HoldsPins new → StopsFor start old new c why → StopsAt start old new line why
    stops_of stop.DiskFault holds d = try_of d
    stops_of stop.Broken holds d = record { idle = idle_of holds d.0; marked = d.1; asks = k.asks ∙ d.2 }
    stops_of stop.Memory holds d = idle_of holds d

-- ---- a line at which nothing changes
follows_itself : (p : Pass) (line : List ℕ) → FollowsLine p p line
follows_itself p line = record { begins = ([], sym (append-nil p.seen)); same = refl; announced = λ version h. inl h }

-- the line got its answer by itself
pub itself_replied : (start : Start) (s : Session) (line : List ℕ) (r : Reply) → HoldsPins s → is_marked s.pass.seen ≡ false → ((t : State) (own : Own) → answer t own line ≡ own_answer r t own) → IsRepliedBy start s s line r []
itself_replied start s line r pins unmarked is =
    let t = state_after_events start s.pass.seen in
    let e = is t s.own in
    let looked : HasLooked start s s line = record {
      follows = follows_itself s.pass line;
      others = λ x has named. none_after s.pass.seen x has;
      unmarked = unmarked;
      quiet = ap (λ (a : Answer). a.entry) e;
      own = sym (ap (λ (a : Answer). a.own) e);
      pins = pins;
      by_itself = λ own. refl;
    } in (
      look_reply start s s.pass line,
      looks_reply start s s line looked,
      ap (answer_text (length (seen_by s.pass))) (sym e),
    )

-- or nothing was done at it
pub itself_idle : (s : Session) (line : List ℕ) → HoldsPins s → HasDoneNothing s s line
itself_idle s line holds = record { follows = follows_itself s.pass line; others = λ x has named. none_after s.pass.seen x has; pins = refl; holds = holds; own = refl }

-- ---- a session that is over
holds_ended : (s : Session) → HoldsPins s → HoldsPins (stopped_session s)
holds_ended s h = record { versions = h.versions; eight = h.eight; board = h.board }

module _ (start : Start) (old new : Session) (line : List ℕ) where
  pub replied_ended : (r : LineReply) → HasReplied start old new line r → HasReplied start old (stopped_session new) line r
  replied_ended r t = record {
    follows = t.follows;
    unmarked = t.unmarked;
    pins = holds_ended new t.pins;
    own = t.own;
    number = t.number;
    answered = t.answered;
    held = t.held;
    places = t.places;
  }

  idle_ended : HasDoneNothing old new line → HasDoneNothing old (stopped_session new) line
  idle_ended i = record { follows = i.follows; others = i.others; pins = i.pins; holds = holds_ended new i.holds; own = i.own }

  pub stops_ended : (why : Stop) → StopsAt start old new line why → StopsAt start old (stopped_session new) line why
  stops_ended stop.DiskFault t = record { attempt = t.attempt; before = t.before; sees = t.sees; gives = t.gives; held = t.held; own = t.own }
  stops_ended stop.Broken t = record { idle = idle_ended t.idle; marked = t.marked; asks = t.asks }
  stops_ended stop.Memory t = idle_ended t

-- ---- from the calls' clauses
-- a session that isn't over has seen no mark
pub unmarked_of : (s : Session) → IsSoundSession s → s.over ≡ false → is_marked s.pass.seen ≡ false
unmarked_of s k begun = elim k.whole [ inl over ↦ absurd (cc) | inr unmarked ↦ unmarked ]

-- the line is none of the grammar
pub syntax_replied : (start : Start) (s : Session) (line block : List ℕ) → HoldsPins s → IsSoundSession s → s.over ≡ false → (is_long line ≡ false) × (command_of line ≡ None)
    → (text : List ℕ) × (block ≡ block ++ text) × IsRepliedBy start s s line (reply.No refusal.Syntax) text
syntax_replied start s line block pins k begun f = ([], sym (append-nil block), itself_replied start s line (reply.No refusal.Syntax) pins (unmarked_of s k begun) (λ t own. answer-short t own line None f.0 f.1))

-- or it is too long
pub long_replied : (start : Start) (s : Session) (line block : List ℕ) → HoldsPins s → IsSoundSession s → s.over ≡ false → is_long line ≡ true → (text : List ℕ) × (block ≡ block ++ text) × IsRepliedBy start s s line (reply.No refusal.Long) text
long_replied start s line block pins k begun long = ([], sym (append-nil block), itself_replied start s line (reply.No refusal.Long) pins (unmarked_of s k begun) (λ t own. answer-long t own line long))

module _ (start : Start) (old new : Session) (line : List ℕ) (c : Command) (short : is_long line ≡ false) (read : command_of line ≡ Some c) where
  pub obeyed_replied : (block block' : List ℕ) (o : Result Reply Stop) → old.own.number ≡ old.pass.number → HoldsPins new → IsObeyedWith start old new c block block' o
      → IfOk o (λ r. (text : List ℕ) × (block' ≡ block ++ text) × IsRepliedBy start old new line r text)
  obeyed_replied block block' (Ok r) numbers pins d = (d.0, d.1, done_of line c (line_of line c short read) start old new r d.0 numbers pins d.2)
  obeyed_replied block block' (Err why) numbers pins d = tt

  pub obeyed_goes : (block block' : List ℕ) (o : Result Reply Stop) → IsObeyedWith start old new c block block' o → OnOk o (new.over ≡ false)
  obeyed_goes block block' (Ok r) d = d.3
  obeyed_goes block block' (Err why) d = tt

  pub obeyed_stops : (block block' : List ℕ) (o : Result Reply Stop) → HoldsPins new → IsObeyedWith start old new c block block' o → IfErr o (λ why. StopsAt start old new line why)
  obeyed_stops block block' (Ok r) holds d = tt
  obeyed_stops block block' (Err why) holds d = stops_of line c (line_of line c short read) start old new why holds d
