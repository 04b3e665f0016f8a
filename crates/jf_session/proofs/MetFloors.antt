-- The floors of a legal history are met, if each of them may be a pin.
use Rattle.std.proofs.Common.{◌≡◌, inl, inr, ℕ, false, ◌||◌, List, [], ◌∷◌, ◌++◌, refl, sym, ap, subst, arith}
use Rattle.std.proofs.lemmas.Bool.{cases_lt, eq-eqb}
use Rattle.jf_model.specs.States.{State}
use Rattle.jf_model.specs.Entries.{after, replay, IsLegal, AreLegal}
use Rattle.jf_model.specs.declared.entries.Entry.{Entry}
use Rattle.jf_model.specs.declared.entries.Entry.TheVariants as entry
use Rattle.jf_store.specs.declared.event.Event.{Event}
use Rattle.jf_store.specs.declared.event.Event.TheVariants.{Done, Mark}
use Rattle.jf_store.specs.Events.{entries_among}
use Rattle.jf_store.specs.Starts.{Start}
use Rattle.jf_store.specs.Floors.{IsMet, AreMet}
use Rattle.jf_store.specs.Ledgers.{AreEvents, MarkIsLast}
use Rattle.jf_answers.specs.Explains.{IsAmong}
use Rattle.jf_history.specs.Sessions.{HaveMet}
use Rattle.jf_history.proofs.Announced.{among-front, among-back}

-- the floor of an entry, if it retires versions
floor_of : Entry → List ℕ
floor_of (entry.Made owner fork parent batch r) = []
floor_of (entry.Landed owner version how r moment) = []
floor_of (entry.Dropped owner fork) = []
floor_of (entry.Retired owner bound floor) = floor ∷ []
floor_of (entry.Compacted owner generation) = []

-- the floors of all events
pub floors_of : List Event → List ℕ
floors_of [] = []
floors_of (Done e ∷ es) = floor_of e ++ floors_of es
floors_of (Mark pass e ∷ es) = floor_of e ++ floors_of es

one : (n : ℕ) → IsAmong (n ∷ []) n
one n = ap (λ b. b || false) (eq-eqb n n refl)

module _ (pins : List ℕ) where
  met_one : (s : State) (e : Entry) → IsLegal s e → ((f : ℕ) → IsAmong (floor_of e) f → IsAmong pins f) → IsMet (λ pin. IsAmong pins pin.1) s e
  unfolding floor_of
  met_one s (entry.Made owner fork parent batch r) legal named = tt
  met_one s (entry.Landed owner version how r moment) legal named = tt
  met_one s (entry.Dropped owner fork) legal named = tt
  met_one s (entry.Compacted owner generation) legal named = tt
  met_one s (entry.Retired owner bound floor) legal named =
      let low = legal.1.floor_rises in
      let high = legal.1.below in
      elim (cases_lt floor bound) [
        | inl lt ↦ inr ((0, floor), named floor (one floor), lt, omega arith)
        | inr ge ↦ inl (omega arith)
      ]

  met_all : (s : State) (es : List Event) → AreLegal s (entries_among es) → MarkIsLast (replay s (entries_among es)) es → ((f : ℕ) → IsAmong (floors_of es) f → IsAmong pins f) → AreMet (λ pin. IsAmong pins pin.1) s es
  unfolding floors_of replay
  met_all s [] legal last named = tt
  met_all s (Done e ∷ es) legal last named = (
    met_one s e legal.0 (λ f h. named f (among-front (floor_of e) (floors_of es) f h)),
    met_all (after e s) es legal.1 last (λ f h. named f (among-back (floor_of e) (floors_of es) f h)),
  )
  met_all s (Mark pass e ∷ es) legal last named =
      let alone : replay s (entries_among es) ≡ s = ap (λ (xs : List Event). replay s (entries_among xs)) last.0 in (
        met_one s e (subst (λ (t : State). IsLegal t e) alone last.1.legal) (λ f h. named f (among-front (floor_of e) (floors_of es) f h)),
        subst (AreMet (λ pin. IsAmong pins pin.1) s) (sym last.0) tt,
      )

-- so there are pins that meet them
pub met_floors : (start : Start) (es : List Event) → AreEvents start es → HaveMet (floors_of es) start es
met_floors start es events = met_all (floors_of es) start.state es events.history.each events.marked (λ f h. h)
