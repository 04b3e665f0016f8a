-- An event that a pass added: what is known of it, and of the state before it.
use Rattle.std.proofs.Common.{◌≡◌, ◌∙◌, ℕ, false, List, [], ◌∷◌, ◌++◌, ap, subst, append_assoc}
use Rattle.jf_model.specs.States.{State, IsState}
use Rattle.jf_model.specs.Entries.{AreLegal, IsLegal}
use Rattle.jf_model.specs.declared.entries.Entry.{Entry}
use Rattle.jf_model.proofs.EntryLaws.{AreLegal-back, AreLegal-front, replay-IsState}
use Rattle.jf_turn.specs.Lists.{StartsWith}
use Rattle.jf_store.specs.declared.event.Event.{Event}
use Rattle.jf_store.specs.declared.event.Event.TheVariants.{Done, Mark}
use Rattle.jf_store.specs.Events.{entries_among, is_marked}
use Rattle.jf_store.specs.Starts.{Start}
use Rattle.jf_store.specs.Ledgers.{AreEvents, IsUndone, state_after_events}
use Rattle.jf_store.specs.Passes.{Pass, SeesOwn}
use Rattle.jf_history.proofs.OneSession.{mark_there}
use Rattle.jf_store.proofs.EventLaws.{entries_of-append, entries_of-done, is_marked-append, state_after_events-mark}

-- the pass has seen what it had seen, and more
pub begins_own : (p p' : Pass) (before : List Event) (x : Event) → SeesOwn p p' before x → StartsWith p'.seen p.seen
begins_own p p' before x sees = (
  sees.begins.0 ++ x ∷ [],
  ap (λ (q : Pass). q.seen) sees.last ∙ ap (λ xs. xs ++ x ∷ []) sees.begins.1 ∙ append_assoc p.seen sees.begins.0 (x ∷ []),
)

-- after an entry no mark is set
pub unmarked_entry : (p p' : Pass) (before : List Event) (e : Entry) → SeesOwn p p' before (Done e) → is_marked p'.seen ≡ false
unmarked_entry p p' before e sees = ap (λ (q : Pass). is_marked q.seen) sees.last ∙ is_marked-append before (Done e ∷ []) sees.unmarked

module _ (start : Start) (p p' : Pass) (before : List Event) (are : AreEvents start p'.seen) where
  -- the state before the event is sound
  pub sound_before : (x : Event) → SeesOwn p p' before x → IsState start.state → IsState (state_after_events start before)
  sound_before x sees sound =
      let seen : entries_among p'.seen ≡ entries_among before ++ entries_among (x ∷ []) = ap (λ (q : Pass). entries_among q.seen) sees.last ∙ entries_of-append before (x ∷ []) in
      replay-IsState start.state (entries_among before) sound (AreLegal-front start.state (entries_among before) (entries_among (x ∷ [])) (subst (AreLegal start.state) seen are.history.each))

  -- an entry is legal over it
  pub legal_entry : (e : Entry) → SeesOwn p p' before (Done e) → IsLegal (state_after_events start before) e
  legal_entry e sees =
      let seen : entries_among p'.seen ≡ entries_among before ++ e ∷ [] = ap (λ (q : Pass). entries_among q.seen) sees.last ∙ entries_of-done before e in
      (AreLegal-back start.state (entries_among before) (e ∷ []) (subst (AreLegal start.state) seen are.history.each)).0

  -- the entry of an attempt would have been legal
  pub legal_attempt : (pass : ℕ) (e : Entry) → SeesOwn p p' before (Mark pass e) → IsUndone (state_after_events start before) pass e
  legal_attempt pass e sees =
      let seen : p'.seen ≡ before ++ Mark pass e ∷ [] = ap (λ (q : Pass). q.seen) sees.last in
      let are' = subst (AreEvents start) seen are in
      subst (λ (s : State). IsUndone s pass e) (state_after_events-mark start before pass e) (mark_there (state_after_events start (before ++ Mark pass e ∷ [])) before pass e are'.marked sees.unmarked)
