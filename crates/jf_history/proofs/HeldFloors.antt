-- The floors of entries that retire versions.
use Rattle.std.proofs.Common.{◌≡◌, inl, inr, ℕ, zero, suc, ◌≤◌, min, max, ◌||◌, Option, Some, None, IfSome, List, [], ◌∷◌, refl, sym, ap, ◌∙◌, subst, arith}
use Rattle.std.specs.Prelude.{slice_get, option_and_then, ◌==◌}
use Rattle.std.proofs.lemmas.Bool.{eq-eqb, cases_lt}
use Rattle.std.specs.List.{AllByRecursion, list_any}
use Rattle.jf_path.proofs.BoolLaws.{or_true}
use Rattle.jf_path.proofs.ListLaws.{All-weaker}
use Rattle.jf_model.specs.States.{State}
use Rattle.jf_model.specs.Entries.{after, replay, timeless, AreLegal, IsLegal}
use Rattle.jf_model.specs.declared.entries.Entry.{Entry}
use Rattle.jf_model.specs.declared.entries.Entry.TheVariants as entry
use Rattle.jf_store.specs.declared.event.Event.{Event}
use Rattle.jf_store.specs.declared.event.Event.TheVariants.{Done, Mark}
use Rattle.jf_store.specs.Events.{entries_among}
use Rattle.jf_store.specs.Starts.{Start}
use Rattle.jf_store.specs.Ledgers.{AreEvents, MarkIsLast, state_after_events}
use Rattle.jf_store.specs.Floors.{IsMet, AreMet}
use Rattle.jf_answers.specs.Own.{Own}
use Rattle.jf_answers.specs.Answers.{Answer, answer, retired_below}
use Rattle.jf_answers.specs.Prunings.{below_pins, next_floor}
use Rattle.jf_answers.proofs.AnswerLaws.{Follows, answer-IsSoundAnswer}
use Rattle.jf_answers.proofs.Pins.{below-le}
use Rattle.jf_answers.specs.Explains.{Timeline, IsAmong, GivesEntry, HasFloor, answer_with, answered_with_floor, floor_in}
use Rattle.jf_history.specs.Sessions.{HaveMet, HeldFloor}

-- ---- a legal history has met its own floors
-- the floor of each event, or 0
abbrev pub floors_of : List Event → List ℕ
floors_of [] = []
floors_of (Done e ∷ es) = floor_in e ∷ floors_of es
floors_of (Mark pass e ∷ es) = floor_in e ∷ floors_of es

among_all : (ns : List ℕ) → AllByRecursion (IsAmong ns) ns
among_all [] = tt
among_all (n ∷ ns) = (
  ap (λ b. b || list_any (λ m. m == n) ns) (eq-eqb n n refl),
  All-weaker (IsAmong ns) (IsAmong (n ∷ ns)) (λ m h. ap (λ b. (n == m) || b) h ∙ or_true (n == m)) ns (among_all ns),
)

one_met : (pins : List ℕ) (s : State) (e : Entry) → IsAmong pins (floor_in e) → IsLegal s e → IsMet (λ pin. IsAmong pins pin.1) s e
one_met pins s (entry.Made owner fork parent batch r) among legal = tt
one_met pins s (entry.Landed owner version how r moment) among legal = tt
one_met pins s (entry.Dropped owner fork) among legal = tt
one_met pins s (entry.Retired owner bound floor) among legal =
    let rises = legal.1.floor_rises in
    let below = legal.1.below in
    elim (cases_lt floor bound) as (λ o. IsMet (λ pin. IsAmong pins pin.1) s (entry.Retired owner bound floor)) [
      | inl lower ↦ inr ((0, floor), among, lower, omega arith)
      | inr same ↦ inl (omega arith)
    ]
one_met pins s (entry.Compacted owner generation) among legal = tt

all_met : (pins : List ℕ) (s last : State) (events : List Event) → AllByRecursion (IsAmong pins) (floors_of events) → AreLegal s (entries_among events) → last ≡ replay s (entries_among events) → MarkIsLast last events → AreMet (λ pin. IsAmong pins pin.1) s events
unfolding replay
all_met pins s last [] among legal is marked = tt
all_met pins s last (Done e ∷ es) among legal is marked = (one_met pins s e among.0 legal.0, all_met pins (after e s) last es among.1 legal.1 is marked)
all_met pins s last (Mark pass e ∷ es) among legal is marked =
    let at : last ≡ s = is ∙ ap (λ (xs : List Event). replay s (entries_among xs)) marked.0 in (
      one_met pins s e among.0 (subst (λ (t : State). IsLegal t e) at marked.1.legal),
      subst (AreMet (λ pin. IsAmong pins pin.1) s) (sym marked.0) tt,
    )

pub HaveMet-floors : (start : Start) (events : List Event) → AreEvents start events → HaveMet (floors_of events) start events
HaveMet-floors start events h = all_met (floors_of events) start.state (state_after_events start events) events (among_all (floors_of events)) h.history.each refl h.marked

-- ---- the floor of a session that is alone
-- the least of a number and the versions pinned is at most each of them
pub below_pins-le : (u w : ℕ) (ps : List (Option ℕ)) (i : ℕ) → option_and_then (λ p. p) (slice_get ps i) ≡ Some w → below_pins u ps ≤ w
below_pins-le u w [] i e = absurd (cc)
below_pins-le u w (None ∷ ps) zero e = absurd (cc)
below_pins-le u w (Some v ∷ ps) zero e = let same : v ≡ w = cc in let low = below-le (min u v) ps in omega arith
below_pins-le u w (None ∷ ps) (suc i) e = below_pins-le u w ps i e
below_pins-le u w (Some v ∷ ps) (suc i) e = below_pins-le (min u v) w ps i e

-- a floor at most as high as all of these is at most as high as the least of them
below_pins-greatest : (floor low u : ℕ) (ps : List (Option ℕ)) → low ≤ max floor u → AllByRecursion (λ pin. IfSome pin (λ p. low ≤ max floor p)) ps → low ≤ max floor (below_pins u ps)
below_pins-greatest floor low u [] le h = le
below_pins-greatest floor low u (None ∷ ps) le h = below_pins-greatest floor low u ps le h.1
below_pins-greatest floor low u (Some v ∷ ps) le h = let first = h.0 in below_pins-greatest floor low (min u v) ps (omega arith) h.1

floor_alone : (start : Start) (own : Own) (s : State) (owner bound floor : ℕ) → start.passes ≡ 1 → own.number ≡ 0 → HeldFloor start own s (entry.Retired owner bound floor)
    → AllByRecursion (λ pin. IfSome pin (λ p. floor ≤ max s.floor p)) own.pins → floor ≡ next_floor bound s own
floor_alone start own s owner bound floor one first held low =
    let least = below-le bound own.pins in
    elim held as (λ o. floor ≡ next_floor bound s own) [
      | inl e ↦ (let great = below_pins-greatest s.floor floor bound own.pins (omega arith) low in omega arith)
      | inr x ↦ (
          let number : x.0.0 ≡ own.number = (let below = x.1.0 in omega arith) in
          let mine = x.1.1 number in
          let under = below_pins-le bound x.0.1 own.pins mine.0 mine.1 in
          let lower = x.2 in
          let is = x.3 in
          let great = below_pins-greatest s.floor floor bound own.pins (omega arith) low in
          omega arith
          )
    ]

retired_is : (e : Entry) (n b f : ℕ) → Some (entry.Retired n b f) ≡ Some (timeless e) → e ≡ entry.Retired n b f
retired_is (entry.Retired owner bound floor) n b f e = cc
retired_is (entry.Made owner fork parent batch r) n b f e = absurd (cc)
retired_is (entry.Landed owner version how r moment) n b f e = absurd (cc)
retired_is (entry.Dropped owner fork) n b f e = absurd (cc)
retired_is (entry.Compacted owner generation) n b f e = absurd (cc)

module _ (start : Start) (h : Timeline) (s : State) (own : Own) (e : Entry) (one : start.passes ≡ 1) (first : own.number ≡ 0) (floor : HasFloor h s own e) (held : HeldFloor start own s e) where
  same_answer : (a : Answer) (o : Option Entry) → Follows s own a o → (answered_with_floor (floor_in e) s own a o).entry ≡ Some (timeless e) → answered_with_floor (floor_in e) s own a o ≡ a
  same_answer a (Some (entry.Retired owner bound old)) follows is =
      let e_is : e ≡ entry.Retired own.number bound (floor_in e) = retired_is e own.number bound (floor_in e) is in
      let low = (subst (HasFloor h s own) e_is floor).1 in
      let f = floor_alone start own s own.number bound (floor_in e) one first (subst (HeldFloor start own s) e_is held) low in
      ap (λ f. retired_below bound f s own) f ∙ sym follows.pruned_so
  same_answer a None follows is = refl
  same_answer a (Some (entry.Made owner fork parent batch r)) follows is = refl
  same_answer a (Some (entry.Landed owner version how r moment)) follows is = refl
  same_answer a (Some (entry.Dropped owner fork)) follows is = refl
  same_answer a (Some (entry.Compacted owner generation)) follows is = refl

-- the only session of a store gives the entries of a session by itself
pub answer_with-alone : (start : Start) (h : Timeline) (s : State) (own : Own) (line : List ℕ) (e : Entry) → start.passes ≡ 1 → own.number ≡ 0 → GivesEntry h s own line e → HeldFloor start own s e
    → answer_with (floor_in e) s own line ≡ answer s own line
answer_with-alone start h s own line e one first gives held =
    same_answer start h s own e one first gives.floor held (answer s own line) (answer s own line).entry (answer-IsSoundAnswer s own line).follows gives.same
