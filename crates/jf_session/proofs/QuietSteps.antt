-- Lines that give no entry leave a session quiet, whatever comes of them.
use Rattle.std.proofs.Common.{◌≡◌, inl, inr, ℕ, None, List, [], ◌++◌, sym, ap, ◌∙◌, append-nil}
use Rattle.std.specs.Prelude.{Result, Ok, Err, Option, is_some, cond, ◌∷◌}
use Rattle.jf_model.specs.States.{State}
use Rattle.jf_model.specs.declared.entries.Entry.{Entry}
use Rattle.jf_input.specs.Feeds.{front_of_line}
use Rattle.jf_store.specs.Starts.{Start}
use Rattle.jf_store.specs.Ledgers.{AreEvents}
use Rattle.jf_answers.specs.Own.{Own}
use Rattle.jf_answers.specs.Answers.{Answer, answer}
use Rattle.jf_answers.specs.Explains.{Timeline, LineReply, IsAnswered, GivesEntry, answered_with_floor, floor_in, places_owned}
use Rattle.jf_history.specs.Sessions.{Session, HasReplied, seen_by, entry_place}
use Rattle.jf_session.specs.Taking.{Makes, AnswersLine, StaysQuiet}
use Rattle.jf_session.specs.declared.stop.Stop.{Stop}
use Rattle.jf_session.specs.declared.stop.Stop.TheVariants as stop
use Rattle.jf_session.proofs.Alike.{given_are_alike}
use Rattle.jf_session.proofs.MetFloors.{floors_of, met_floors}
use Rattle.jf_session.proofs.OwnEvents.{others_alone}

-- in no state has the line's answer an entry
abbrev pub GivesNone : List ℕ → Type 0
GivesNone line = (t : State) (own : Own) → (answer t own line).entry ≡ None

module _ (line : List ℕ) (none : GivesNone line) where
  gives_none : (h : Timeline) (s : State) (own : Own) (e : Entry) → GivesEntry h s own line e → ⊥
  gives_none h s own e g =
      let plain : answered_with_floor (floor_in e) s own (answer s own line) (answer s own line).entry ≡ answer s own line = ap (answered_with_floor (floor_in e) s own (answer s own line)) (none s own) in
      let same = sym (ap (λ (a : Answer). a.entry) plain ∙ none s own) ∙ g.same in
      absurd (cc)

  replied_none : (h : Timeline) (own : Own) (seen : ℕ) (r : LineReply) → IsAnswered h own seen line r → r.entry ≡ None
  replied_none h own seen r a = elim a.answered [ inl l ↦ l.none | inr c ↦ absurd (gives_none _ _ own c.event c.gives) ]

  replied_quiet : (start : Start) (s new : Session) (r : LineReply) → AreEvents start new.pass.seen → HasReplied start s new line r → StaysQuiet s new
  replied_quiet start s new r events t =
      let no_entry = replied_none _ _ _ r (t.answered (floors_of new.pass.seen) (met_floors start new.pass.seen events)) in
      let no_place : entry_place r ≡ [] = ap (λ (o : Option Entry). cond (is_some o) (r.number ∷ []) []) no_entry in
      let xs = places_owned s.pass.number 0 (seen_by s.pass) in
      others_alone s.pass new.pass.seen t.follows.begins t.unmarked (t.places ∙ ap (λ ns. xs ++ ns) no_place ∙ append-nil xs)

  makes_quiet : (start : Start) (s new : Session) (r : Result (List ℕ) Stop) → AreEvents start new.pass.seen → Makes start s line new r → StaysQuiet s new
  makes_quiet start s new (Ok text) events m = replied_quiet start s new m.0 events m.1
  makes_quiet start s new (Err stop.DiskFault) events m = absurd (gives_none _ _ _ m.attempt (m.gives (floors_of new.pass.seen) (met_floors start new.pass.seen events)))
  makes_quiet start s new (Err stop.Broken) events m = m.idle.others
  makes_quiet start s new (Err stop.Memory) events m = elim m [ inl i ↦ i.others | inr r ↦ replied_quiet start s new r.1.0 events r.1.1 ]

-- whatever comes of a line of which such a front is given is quiet
pub quiet_line : (s new : Session) (line whole : List ℕ) (r : Result (List ℕ) Stop) → GivesNone line → line ≡ front_of_line whole → AnswersLine s whole new r → StaysQuiet s new
quiet_line s new line whole r none given a =
    let alike = given_are_alike line whole given in
    makes_quiet whole (λ t own. sym (ap (λ (x : Answer). x.entry) (alike.answers t own)) ∙ none t own) a.start s new r a.events a.makes
