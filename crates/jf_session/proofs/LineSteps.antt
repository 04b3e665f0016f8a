-- One call that does a line, as a machine's step.
use Rattle.std.proofs.Common.{◌≡◌, ◌⊎◌, inl, inr, ℕ, true, false, Some, List, ◌++◌, refl}
use Rattle.std.specs.Prelude.{Result, Ok, Err, OnOk, OnErr, IfErr}
use denote.Ref.{Bor, MutBor}
use Rattle.jf_input.specs.Feeds.{front_of_line}
use Rattle.jf_store.specs.Starts.{Start}
use Rattle.jf_store.specs.Ledgers.{AreEvents}
use Rattle.jf_store.specs.Passes.{Store, IsPassOf}
use Rattle.jf_answers.specs.Explains.{LineReply}
use Rattle.jf_history.specs.Sessions.{Session, HasReplied, IsTry, IsBroken, HasDoneNothing}
use Rattle.jf_session.specs.Taking.{AnswersLine, DoesLine, MayStep}
use Rattle.jf_session.specs.declared.stop.Stop.{Stop}
use Rattle.jf_session.specs.declared.stop.Stop.TheVariants as stop
use Rattle.jf_session.proofs.Alike.{answers_given}
use Rattle.jf_session.proofs.SamePass.{same_replied, own_after}

-- ---- from the call's clauses
module _ (start : Start) (s new : Session) (line out out' : List ℕ) (is : s.pass.start ≡ Some start) (begun : s.over ≡ false) (events : AreEvents start new.pass.seen) where
  pub steps_of : (r : Result (Unit {0}) Stop) → OnOk r ((a : LineReply) × HasReplied start s new line a × (out' ≡ out ++ a.text)) → OnOk r (new.over ≡ false) → OnErr r (out' ≡ out) → OnErr r (new.over ≡ true)
      → (r ≡ Err stop.DiskFault → IsTry start s new line) → (r ≡ Err stop.Broken → IsBroken s new line) → (r ≡ Err stop.Memory → HasDoneNothing s new line ⊎ ((a : LineReply) × HasReplied start s new line a)) → DoesLine s line out r new out'
  steps_of (Ok done) ok on silent over fault broken memory = (ok.0.text, ok.2, record { start = start; start_is = is; begun = begun; over = on; events = events; makes = (ok.0, ok.1, refl) })
  steps_of (Err stop.DiskFault) ok on silent over fault broken memory = (silent, record { start = start; start_is = is; begun = begun; over = over; events = events; makes = fault refl })
  steps_of (Err stop.Broken) ok on silent over fault broken memory = (silent, record { start = start; start_is = is; begun = begun; over = over; events = events; makes = broken refl })
  steps_of (Err stop.Memory) ok on silent over fault broken memory = (silent, record { start = start; start_is = is; begun = begun; over = over; events = events; makes = elim (memory refl) [ inl i ↦ inl i | inr r ↦ inr (r.0.text, (r.0, r.1, refl)) ] })

-- ---- a step of a machine
pub took_ok : (s new : Session) (line out out' : List ℕ) (r : Result (Unit {0}) Stop) → DoesLine s line out r new out' → OnOk r ((t : List ℕ) × (out' ≡ out ++ t) × ((whole : List ℕ) → line ≡ front_of_line whole → AnswersLine s whole new (Ok t)))
took_ok s new line out out' (Ok done) d = (d.0, d.1, λ whole given. answers_given s new line whole (Ok d.0) given d.2)
took_ok s new line out out' (Err why) d = tt

pub took_err : (s new : Session) (line out out' : List ℕ) (r : Result (Unit {0}) Stop) → DoesLine s line out r new out' → (whole : List ℕ) → line ≡ front_of_line whole → IfErr r (λ why. AnswersLine s whole new (Err why))
took_err s new line out out' (Ok done) d whole given = tt
took_err s new line out out' (Err why) d whole given = answers_given s new line whole (Err why) given d.1

pub took_silent : (s new : Session) (line out out' : List ℕ) (r : Result (Unit {0}) Stop) → DoesLine s line out r new out' → OnErr r (out' ≡ out)
took_silent s new line out out' (Ok done) d = tt
took_silent s new line out out' (Err why) d = d.0

pub took_on : (store : Store) (s new : Session) (line out out' : List ℕ) (r : Result (Unit {0}) Stop) → IsPassOf s.pass store → DoesLine s line out r new out' → OnOk r ((new.over ≡ false) × IsPassOf new.pass store)
took_on store s new line out out' (Ok done) own d = (d.2.over, own_after store s.pass new.pass own (same_replied d.2.start s new line d.2.makes.0 d.2.makes.1))
took_on store s new line out out' (Err why) own d = tt

-- after a step that went on, the next may be made
pub took_ready : {T : Type 0} (shown : T → Session) (store : Store) (s s' : T) (line : List ℕ) (out out' : List ℕ) (r : Result (Unit {0}) Stop) (pre : MutBor T → Bor (List ℕ) → Bor (List ℕ) → MutBor (List ℕ) → Type 0) (post : MutBor T → Bor (List ℕ) → Bor (List ℕ) → MutBor (List ℕ) → Result (Unit {0}) Stop → MutBor T → MutBor (List ℕ) → Type 0)
    → MayStep DoesLine store shown s pre post → DoesLine (shown s) line out r (shown s') out' → OnOk r ((store : Store) × MayStep DoesLine store shown s' pre post)
took_ready shown store s s' line out out' (Ok done) pre post may d =
    let on = took_on store (shown s) (shown s') line out out' (Ok done) may.own d in
    (store, record { begun = on.0; own = on.1; steps = may.steps })
took_ready shown store s s' line out out' (Err why) pre post may d = tt
