-- A line that is done and told of, from the command that it is to a step of a machine.
use Rattle.std.proofs.Common.{◌≡◌, inl, inr, ℕ, false, Some, List, [], ◌++◌, refl, sym, ap, append-nil}
use Rattle.std.specs.Prelude.{◌⊎◌, Result, Ok, Err, OnOk, OnErr, IfErr}
use denote.Ref.{Bor, MutBor}
use Rattle.jf_input.specs.Feeds.{front_of_line}
use Rattle.jf_text.specs.Words.{is_long}
use Rattle.jf_lead.specs.declared.block.LandingBlock.{LandingBlock}
use Rattle.jf_lead.specs.Landings.{landings_text}
use Rattle.jf_script.specs.declared.command.Command.{Command}
use Rattle.jf_script.specs.Commands.{command_of}
use Rattle.jf_script.specs.declared.reply.Reply.{Reply}
use Rattle.jf_store.specs.Starts.{Start}
use Rattle.jf_store.specs.Ledgers.{AreEvents}
use Rattle.jf_store.specs.Passes.{Store, Pass, IsPassOf}
use Rattle.jf_history.specs.Sessions.{Session, IsTry, IsBroken, HasDoneNothing, HoldsPins, seen_by}
use Rattle.jf_session.specs.declared.stop.Stop.{Stop}
use Rattle.jf_session.specs.declared.stop.Stop.TheVariants as stop
use Rattle.jf_session.specs.Steps.{FollowsCommand, IsDoneAs, StopsFor, IsObeyedWith}
use Rattle.jf_session.specs.Answering.{IsRepliedBy, stopped_session}
use Rattle.jf_session.specs.Taking.{RepliesWith, Makes, AnswersLine, StaysQuiet, MayStep}
use Rattle.jf_session.specs.Leading.{HasLandedMore, AreOfLast}
use Rattle.jf_session.specs.Telling.{TellsLandings, IsLedAs, LandsMore, LandsLast, LeadsLine, DoesLeading}
use Rattle.jf_session.proofs.OfLines.{IsLineOf, line_of, done_of, stops_of, itself_idle, replied_ended, stops_ended}
use Rattle.jf_session.proofs.SamePass.{IsSamePass, same_of, same_replied, same_idle, same_try, own_after}
use Rattle.jf_session.proofs.OwnLandings.{landed_same, landed_others, landed_mark}
use Rattle.jf_session.proofs.Alike.{answers_given}
use Rattle.jf_session.proofs.QuietSteps.{GivesNone, quiet_line}

-- ---- what comes of a line
-- a line was replied to, and neither its reply nor what it landed is told
pub record RepliesUntold (start : Start) (s : Session) (line : List ℕ) (new : Session) : Type 0 where
  pub text : List ℕ
  pub replied : RepliesWith start s line new text
  pub blocks : List LandingBlock
  pub landed : HasLandedMore start s.pass new.pass blocks
  pub last : AreOfLast start.state (seen_by new.pass) blocks

-- a line was done, its reply is dropped, and what it landed is told; or why not, and nothing is told
abbrev pub IsLedLine : Start → Session → Session → List ℕ → List ℕ → List ℕ → Result (Unit {0}) Stop → Type 0
IsLedLine start old new line told told' (Ok done) = (text : List ℕ) × RepliesWith start old line new text × (new.over ≡ false) × TellsLandings start old.pass new.pass told told'
IsLedLine start old new line told told' (Err stop.DiskFault) = IsTry start old new line × (told' ≡ told)
IsLedLine start old new line told told' (Err stop.Broken) = IsBroken old new line × (told' ≡ told)
IsLedLine start old new line told told' (Err stop.Memory) = (HasDoneNothing old new line ⊎ RepliesUntold start old line new) × (told' ≡ told)

-- ---- the pass stays one of its store
same_follows : (old new : Pass) (c : Command) → FollowsCommand old new c → IsSamePass old new
same_follows old new c f = same_of old new f.same

same_done : (start : Start) (old new : Session) (c : Command) (r : Reply) (lines : List ℕ) → IsDoneAs start old new c r lines → IsSamePass old.pass new.pass
same_done start old new c r lines (inl l) = same_follows old.pass new.pass c l.follows
same_done start old new c r lines (inr d) = let e = d.sees.last in (ap (λ (p : Pass). p.store) e, ap (λ (p : Pass). p.start) e, ap (λ (p : Pass). p.number) e)

same_for : (start : Start) (old new : Session) (c : Command) (why : Stop) → StopsFor start old new c why → IsSamePass old.pass new.pass
same_for start old new c stop.DiskFault t = let e = t.sees.last in (ap (λ (p : Pass). p.store) e, ap (λ (p : Pass). p.start) e, ap (λ (p : Pass). p.number) e)
same_for start old new c stop.Broken t = same_follows old.pass new.pass c t.0.follows
same_for start old new c stop.Memory t = same_follows old.pass new.pass c t.follows

pub own_obeyed : (start : Start) (old new : Session) (c : Command) (lines lines' : List ℕ) (o : Result Reply Stop) (store : Store) → IsPassOf old.pass store → IsObeyedWith start old new c lines lines' o → IsPassOf new.pass store
own_obeyed start old new c lines lines' (Ok r) store own d = own_after store old.pass new.pass own (same_done start old new c r d.0 d.2)
own_obeyed start old new c lines lines' (Err why) store own d = own_after store old.pass new.pass own (same_for start old new c why d)

same_led : (start : Start) (old new : Session) (line told told' : List ℕ) (o : Result (Unit {0}) Stop) → IsLedLine start old new line told told' o → IsSamePass old.pass new.pass
same_led start old new line told told' (Ok u) d = same_replied start old new line d.1.0 d.1.1
same_led start old new line told told' (Err stop.DiskFault) d = same_try start old new line d.0
same_led start old new line told told' (Err stop.Broken) d = same_idle old new line d.0.idle
same_led start old new line told told' (Err stop.Memory) d = elim d.0 [ inl i ↦ same_idle old new line i | inr r ↦ same_replied start old new line r.replied.0 r.replied.1 ]

pub own_led : (start : Start) (old new : Session) (line told told' : List ℕ) (o : Result (Unit {0}) Stop) (store : Store) → IsPassOf old.pass store → IsLedLine start old new line told told' o → IsPassOf new.pass store
own_led start old new line told told' o store own d = own_after store old.pass new.pass own (same_led start old new line told told' o d)

-- ---- a line that is a command
replies_by : (start : Start) (old new : Session) (line : List ℕ) (r : Reply) (block : List ℕ) → (q : IsRepliedBy start old new line r block) → RepliesWith start old line new q.0.text
replies_by start old new line r block q = (q.0, q.1, refl)

module _ (start : Start) (old new : Session) (line : List ℕ) (c : Command) (short : is_long line ≡ false) (read : command_of line ≡ Some c) (numbers : old.own.number ≡ old.pass.number) (pins : HoldsPins new) where
  k : IsLineOf line c
  k = line_of line c short read

  pub led_line : (told told' : List ℕ) (o : Result (Unit {0}) Stop) → IsLedAs start old new c told told' o → IsLedLine start old new line told told' o
  led_line told told' (Ok u) d = let q = done_of line c k start old new d.0 d.1 numbers pins d.2 in (q.0.text, replies_by start old new line d.0 d.1 q, d.3, d.4)
  led_line told told' (Err stop.DiskFault) d = (stops_of line c k start old new stop.DiskFault pins d.0, d.1)
  led_line told told' (Err stop.Broken) d = (stops_of line c k start old new stop.Broken pins d.0, d.1)
  led_line told told' (Err stop.Memory) d = (
    elim d.0 [
      | inl n ↦ inl (stops_of line c k start old new stop.Memory pins n)
      | inr u ↦
          let q = done_of line c k start old new u.reply u.lines numbers pins u.done in
          inr record { text = q.0.text; replied = replies_by start old new line u.reply u.lines q; blocks = u.blocks; landed = u.landed; last = u.last }
    ],
    d.1,
  )

-- ---- a line that is none
pub led_itself : (start : Start) (s : Session) (line : List ℕ) (r : Reply) (block : List ℕ) → s.over ≡ false → IsRepliedBy start s s line r block → (told : List ℕ) → IsLedLine start s s line told told (Ok tt)
led_itself start s line r block goes q told = (q.0.text, replies_by start s s line r block q, goes, record { blocks = []; landed = landed_same start s.pass; appended = sym (append-nil told) })

pub led_unread : (start : Start) (s : Session) (line : List ℕ) → HoldsPins s → (told : List ℕ) → IsLedLine start s s line told told (Err stop.Memory)
led_unread start s line pins told = (inl (itself_idle s line pins), refl)

-- ---- the result of a call for a session
module _ (start : Start) (s new : Session) (line told told' : List ℕ) (is : s.pass.start ≡ Some start) (begun : s.over ≡ false) (events : AreEvents start new.pass.seen) where
  pub leads_on : IsLedLine start s new line told told' (Ok tt) → DoesLeading s line told (Ok tt) new told'
  leads_on d =
      let t = d.3 in (
        landings_text t.blocks,
        t.appended,
        (
          d.0,
          t.blocks,
          record { start = start; start_is = is; begun = begun; over = d.2; events = events; makes = d.1 },
          (start, is, t.landed),
          refl,
        ),
      )

  -- the session is over
  answers_over : (why : Stop) → Makes start s line (stopped_session new) (Err why) → AnswersLine s line (stopped_session new) (Err why)
  answers_over why makes = record { start = start; start_is = is; begun = begun; over = refl; events = events; makes = makes }

  more_over : (blocks : List LandingBlock) → HasLandedMore start s.pass new.pass blocks → LandsMore s (stopped_session new) blocks
  more_over blocks h = (start, is, record { all = h.all; sound = h.sound })

  last_over : (blocks : List LandingBlock) → HasLandedMore start s.pass new.pass blocks → AreOfLast start.state (seen_by new.pass) blocks → LandsLast s (stopped_session new) blocks
  last_over blocks h last = (start, is, record { all = h.all; sound = h.sound }, last)

  pub leads_over : (why : Stop) → IsLedLine start s new line told told' (Err why) → DoesLeading s line told (Err why) (stopped_session new) told'
  leads_over stop.DiskFault d = (
    d.1,
    (
      answers_over stop.DiskFault (stops_ended start s new line stop.DiskFault d.0),
      more_over [] (landed_mark start s.pass new.pass d.0.before s.pass.number d.0.attempt d.0.sees),
    ),
  )
  leads_over stop.Broken d = (
    d.1,
    (
      answers_over stop.Broken (stops_ended start s new line stop.Broken d.0),
      more_over [] (landed_others start s.pass new.pass (same_idle s new line d.0.idle).2 d.0.idle.follows.begins d.0.idle.others),
    ),
  )
  leads_over stop.Memory d = (
    d.1,
    elim d.0 [
      | inl i ↦ (
        [],
        answers_over stop.Memory (inl (stops_ended start s new line stop.Memory i)),
        last_over [] (landed_others start s.pass new.pass (same_idle s new line i).2 i.follows.begins i.others) (inl refl),
      )
      | inr r ↦ (
        r.blocks,
        answers_over stop.Memory (inr (r.text, (r.replied.0, replied_ended start s new line r.replied.0 r.replied.1, r.replied.2))),
        last_over r.blocks r.landed r.last,
      )
    ],
  )

-- ---- a step of a machine
-- the result for what is given of a line is the result for the line
leads_given : (s new : Session) (line whole : List ℕ) (r : Result (List ℕ) Stop) → line ≡ front_of_line whole → LeadsLine s line new r → LeadsLine s whole new r
leads_given s new line whole (Ok told) given l = (l.0, l.1, answers_given s new line whole (Ok l.0) given l.2, l.3, l.4)
leads_given s new line whole (Err stop.DiskFault) given l = (answers_given s new line whole (Err stop.DiskFault) given l.0, l.1)
leads_given s new line whole (Err stop.Broken) given l = (answers_given s new line whole (Err stop.Broken) given l.0, l.1)
leads_given s new line whole (Err stop.Memory) given l = (l.0, answers_given s new line whole (Err stop.Memory) given l.1, l.2)

pub led_ok : (s new : Session) (line out out' : List ℕ) (r : Result (Unit {0}) Stop) → DoesLeading s line out r new out' → OnOk r ((t : List ℕ) × (out' ≡ out ++ t) × ((whole : List ℕ) → line ≡ front_of_line whole → LeadsLine s whole new (Ok t)))
led_ok s new line out out' (Ok u) d = (d.0, d.1, λ whole given. leads_given s new line whole (Ok d.0) given d.2)
led_ok s new line out out' (Err why) d = tt

pub led_err : (s new : Session) (line out out' : List ℕ) (r : Result (Unit {0}) Stop) → DoesLeading s line out r new out' → (whole : List ℕ) → line ≡ front_of_line whole → IfErr r (λ why. LeadsLine s whole new (Err why))
led_err s new line out out' (Ok u) d whole given = tt
led_err s new line out out' (Err why) d whole given = leads_given s new line whole (Err why) given d.1

pub led_silent : (s new : Session) (line out out' : List ℕ) (r : Result (Unit {0}) Stop) → DoesLeading s line out r new out' → OnErr r (out' ≡ out)
led_silent s new line out out' (Ok u) d = tt
led_silent s new line out out' (Err why) d = d.0

-- after a step that went on, the next may be made
pub led_ready : {T : Type 0} (shown : T → Session) (store : Store) (s s' : T) (line : List ℕ) (out out' : List ℕ) (r : Result (Unit {0}) Stop) (pre : MutBor T → Bor (List ℕ) → Bor (List ℕ) → MutBor (List ℕ) → Type 0) (post : MutBor T → Bor (List ℕ) → Bor (List ℕ) → MutBor (List ℕ) → Result (Unit {0}) Stop → MutBor T → MutBor (List ℕ) → Type 0)
    → MayStep DoesLeading store shown s pre post → DoesLeading (shown s) line out r (shown s') out' → OnOk r ((store : Store) × MayStep DoesLeading store shown s' pre post)
led_ready shown store s s' line out out' (Ok u) pre post may d =
    let a = d.2.2 in
    (store, record { begun = a.over; own = own_after store (shown s).pass (shown s').pass may.own (same_replied a.start (shown s) (shown s') line a.makes.0 a.makes.1); steps = may.steps })
led_ready shown store s s' line out out' (Err why) pre post may d = tt

-- whatever comes of a line that gives no entry, of which such a front is given, is quiet
pub led_quiet : (s new : Session) (line whole : List ℕ) (r : Result (List ℕ) Stop) → GivesNone line → line ≡ front_of_line whole → LeadsLine s whole new r → StaysQuiet s new
led_quiet s new line whole (Ok told) none given l = quiet_line s new line whole (Ok l.0) none given l.2
led_quiet s new line whole (Err stop.DiskFault) none given l = quiet_line s new line whole (Err stop.DiskFault) none given l.0
led_quiet s new line whole (Err stop.Broken) none given l = quiet_line s new line whole (Err stop.Broken) none given l.0
led_quiet s new line whole (Err stop.Memory) none given l = quiet_line s new line whole (Err stop.Memory) none given l.1
