-- A line of which the front is given is answered as the whole line.
use Rattle.std.proofs.Common.{◌≡◌, inl, inr, ℕ, ◌-◌, true, cond, None, ◌||◌, List, sym, ap, ◌∙◌}
use Rattle.std.specs.Prelude.{Result, Ok, Err}
use Rattle.jf_text.specs.Words.{is_long}
use Rattle.jf_script.specs.Commands.{command_of}
use Rattle.jf_input.specs.Feeds.{front_of_line}
use Rattle.jf_input.proofs.Given.{given_alike}
use Rattle.jf_model.specs.States.{State}
use Rattle.jf_model.specs.declared.entries.Entry.{Entry}
use Rattle.jf_store.specs.Starts.{Start}
use Rattle.jf_store.specs.Passes.{Pass}
use Rattle.jf_answers.specs.Own.{Own}
use Rattle.jf_answers.specs.Answers.{Answer, answer}
use Rattle.jf_answers.proofs.AnswerLaws.{answer-both_long}
use Rattle.jf_answers.specs.Runs.{answer_text}
use Rattle.jf_answers.specs.OwnLines.{is_own_line, is_own, pin_of, pin_of_command}
use Rattle.jf_answers.specs.Explains.{Timeline, LineReply, IsAnswered, IsQuietReply, HasAnsweredChange, GivesEntry, answered_with_floor, answer_with, floor_in, state_after}
use Rattle.jf_history.specs.Sessions.{Session, FollowsLine, HasReplied, IsTry, HasDoneNothing}
use Rattle.jf_session.specs.declared.stop.Stop.{Stop}
use Rattle.jf_session.specs.declared.stop.Stop.TheVariants as stop
use Rattle.jf_session.specs.Taking.{Makes, RepliesWith, AnswersLine}

-- two lines name the same pin, ask or don't ask the store, and are answered alike
pub record AreAlike (line other : List ℕ) : Type 0 where
  pub pin : pin_of line ≡ pin_of other
  pub asks : is_own_line line ≡ is_own_line other
  pub answers : (s : State) (own : Own) → answer s own line ≡ answer s own other

own_long : (line other : List ℕ) → is_long line ≡ true → is_long other ≡ true → is_own_line line ≡ is_own_line other
unfolding is_own_line
own_long line other long long' = ap (λ b. b || is_own (command_of line)) long ∙ sym (ap (λ b. b || is_own (command_of other)) long')

pin_long : (line other : List ℕ) → is_long line ≡ true → is_long other ≡ true → pin_of line ≡ pin_of other
unfolding pin_of
pin_long line other long long' = ap (λ b. cond b None (pin_of_command (command_of line))) long ∙ sym (ap (λ b. cond b None (pin_of_command (command_of other))) long')

pub given_are_alike : (line whole : List ℕ) → line ≡ front_of_line whole → AreAlike line whole
given_are_alike line whole given = record {
  pin = ap pin_of given ∙ given_alike pin_of pin_long whole;
  asks = ap is_own_line given ∙ given_alike is_own_line own_long whole;
  answers = λ s own. ap (answer s own) given ∙ given_alike (answer s own) (answer-both_long s own) whole;
}

module _ (line other : List ℕ) (k : AreAlike line other) where
  follows_alike : (old new : Pass) → FollowsLine old new line → FollowsLine old new other
  follows_alike old new f = record { begins = f.begins; same = f.same; announced = λ version h. elim (f.announced version h) [ inl was ↦ inl was | inr named ↦ inr (sym k.pin ∙ named) ] }

  with_alike : (floor : ℕ) (s : State) (own : Own) → answer_with floor s own line ≡ answer_with floor s own other
  with_alike floor s own = ap (λ (a : Answer). answered_with_floor floor s own a a.entry) (k.answers s own)

  gives_alike : (h : Timeline) (s : State) (own : Own) (e : Entry) → GivesEntry h s own line e → GivesEntry h s own other e
  gives_alike h s own e g = record { same = sym (ap (λ (a : Answer). a.entry) (with_alike (floor_in e) s own)) ∙ g.same; floor = g.floor }

  looks_alike : (h : Timeline) (own : Own) (seen : ℕ) (r : LineReply) → IsQuietReply h own seen line r → IsQuietReply h own seen other r
  looks_alike h own seen r l =
      let e = k.answers (state_after h r.number) own in
      record {
        quiet = sym (ap (λ (a : Answer). a.entry) e) ∙ l.quiet;
        text = l.text ∙ ap (answer_text r.number) e;
        none = l.none;
        own_after = l.own_after ∙ ap (λ (a : Answer). a.own) e;
        by_itself = λ own. l.by_itself (k.asks ∙ own);
      }

  changes_alike : (h : Timeline) (own : Own) (seen : ℕ) (r : LineReply) → HasAnsweredChange h own seen line r → HasAnsweredChange h own seen other r
  changes_alike h own seen r c =
      let e = with_alike (floor_in c.event) (state_after h (r.number - 1)) own in
      record {
        event = c.event;
        later = c.later;
        stands = c.stands;
        owned = c.owned;
        gives = gives_alike h (state_after h (r.number - 1)) own c.event c.gives;
        text = c.text ∙ ap (answer_text r.number) e;
        kept = c.kept;
        own_after = c.own_after ∙ ap (λ (a : Answer). a.own) e;
      }

  answered_alike : (h : Timeline) (own : Own) (seen : ℕ) (r : LineReply) → IsAnswered h own seen line r → IsAnswered h own seen other r
  answered_alike h own seen r a = record { rises = a.rises; within = a.within; answered = elim a.answered [ inl l ↦ inl (looks_alike h own seen r l) | inr c ↦ inr (changes_alike h own seen r c) ] }

  module _ (start : Start) (s new : Session) where
    replied_alike : (r : LineReply) → HasReplied start s new line r → HasReplied start s new other r
    replied_alike r t = record {
      follows = follows_alike s.pass new.pass t.follows;
      unmarked = t.unmarked;
      pins = t.pins;
      own = t.own;
      number = t.number;
      answered = λ pins met. answered_alike _ _ _ r (t.answered pins met);
      held = t.held;
      places = t.places;
    }

    idle_alike : HasDoneNothing s new line → HasDoneNothing s new other
    idle_alike i = record { follows = follows_alike s.pass new.pass i.follows; others = i.others; pins = i.pins; holds = i.holds; own = i.own }

    try_alike : IsTry start s new line → IsTry start s new other
    try_alike t = record {
      attempt = t.attempt;
      before = t.before;
      sees = t.sees;
      gives = λ pins met. gives_alike _ _ _ t.attempt (t.gives pins met);
      held = t.held;
      own = t.own;
    }

    replies_alike : (text : List ℕ) → RepliesWith start s line new text → RepliesWith start s other new text
    replies_alike text r = (r.0, replied_alike r.0 r.1, r.2)

    makes_alike : (r : Result (List ℕ) Stop) → Makes start s line new r → Makes start s other new r
    makes_alike (Ok text) m = replies_alike text m
    makes_alike (Err stop.DiskFault) m = try_alike m
    makes_alike (Err stop.Broken) m = record { idle = idle_alike m.idle; marked = m.marked; asks = sym k.asks ∙ m.asks }
    makes_alike (Err stop.Memory) m = elim m [ inl i ↦ inl (idle_alike i) | inr r ↦ inr (r.0, replies_alike r.0 r.1) ]

  line_alike : (s new : Session) (r : Result (List ℕ) Stop) → AnswersLine s line new r → AnswersLine s other new r
  line_alike s new r a = record { start = a.start; start_is = a.start_is; begun = a.begun; over = a.over; events = a.events; makes = makes_alike a.start s new r a.makes }

-- the result for a session of a line of which the front is given
pub answers_given : (s new : Session) (line whole : List ℕ) (r : Result (List ℕ) Stop) → line ≡ front_of_line whole → AnswersLine s line new r → AnswersLine s whole new r
answers_given s new line whole r given a = line_alike line whole (given_are_alike line whole given) s new r a
