-- After each call a pass is one of the same store, with its number.
use Rattle.std.proofs.Common.{◌≡◌, ℕ, Result, Ok, Err, List, Option, ap, ◌∙◌, inl, inr}
use Rattle.std.specs.Prelude.{IfOk, IfErr}
use Rattle.jf_hash.specs.Maps.{Batch}
use Rattle.jf_model.specs.declared.entries.Landing.{Landing}
use Rattle.jf_model.specs.declared.entries.Parent.{Parent}
use Rattle.jf_engine.specs.declared.landed.Landed.{Landed}
use Rattle.jf_node.specs.SnapshotValue.{SnapshotValue}
use Rattle.jf_board.specs.declared.views.PlaceView.{PlaceView}
use Rattle.jf_forks.specs.declared.table.Forked.{Forked}
use Rattle.jf_store.specs.declared.event.Event.{Event}
use Rattle.jf_store.specs.declared.fault.StoreFault.{StoreFault}
use Rattle.jf_store.specs.declared.pruned.Pruned.{Pruned}
use Rattle.jf_store.specs.declared.tried.Attempt.{Attempt}
use Rattle.jf_store.specs.declared.tried.Attempt.TheVariants as attempt
use Rattle.jf_store.specs.Starts.{Start}
use Rattle.jf_store.specs.Refusals.{StoreFaults}
use Rattle.jf_store.specs.Passes.{Store, Pass, IsPassOf, Sees, SeesOwn, HasLanded, HasFailed}
use Rattle.jf_store.specs.Prunings.{HasPruned, HasFailedPruning}
use Rattle.jf_store.specs.Forkings.{HasMade, HasDropped, HasBeenRefused}
use Rattle.jf_store.specs.Compactions.{compact_faults, HasCompacted}

-- the pass is one of the store, with the number that it had
abbrev pub Stays : Store → Pass → Pass → Type 0
Stays s old new = IsPassOf new s × (new.number ≡ old.number)

module _ (s : Store) (old new : Pass) (own : IsPassOf old s) where
  seen_more : (events : List Event) → new ≡ record old { seen = events } → Stays s old new
  seen_more events e = ((ap (λ (p : Pass). p.store) e ∙ own.0, ap (λ (p : Pass). p.start) e ∙ own.1), ap (λ (p : Pass). p.number) e)

  pub stays_looking : Sees old new → Stays s old new
  stays_looking sees = seen_more _ sees.same

  stays_own : (before : List Event) (x : Event) → SeesOwn old new before x → Stays s old new
  stays_own before x own_one = seen_more _ own_one.last

  failed : (what : Attempt) (faults : Start → List Event → StoreFaults) (f : StoreFault) → HasFailed s.start what faults old new f → Stays s old new
  failed what faults f (inl tried) = stays_own _ _ tried.1.adds
  failed what faults f (inr refused) = stays_looking refused.0

  pub stays_landing : (how : Landing) (what : Attempt) (faults : Start → List Event → StoreFaults) (r : Result Landed StoreFault) → IfOk r (HasLanded s.start how old new) → IfErr r (HasFailed s.start what faults old new) → Stays s old new
  stays_landing how what faults (Ok l) landed no_fault = stays_own _ _ landed.adds
  stays_landing how what faults (Err f) no_landing fault = failed what faults f fault

  pub stays_making : (parent : Parent) (batch : Batch) (faults : Start → List Event → StoreFaults) (r : Result Forked StoreFault) → IfOk r (HasMade s.start parent batch old new) → IfErr r (HasBeenRefused s.start faults old new) → Stays s old new
  stays_making parent batch faults (Ok f) made no_fault = stays_own _ _ made.adds
  stays_making parent batch faults (Err f) no_fork refused = stays_looking refused.0

  pub stays_dropping : (id : ℕ) (faults : Start → List Event → StoreFaults) (r : Result ℕ StoreFault) → IfOk r (HasDropped s.start id old new) → IfErr r (HasBeenRefused s.start faults old new) → Stays s old new
  stays_dropping id faults (Ok n) dropped no_fault = stays_own _ _ dropped.adds
  stays_dropping id faults (Err f) no_drop refused = stays_looking refused.0

  pruning_failed : (bound : ℕ) (f : StoreFault) → HasFailedPruning s.start bound old new f → Stays s old new
  pruning_failed bound f (inl tried) = stays_own _ _ tried.1.adds
  pruning_failed bound f (inr refused) = stays_looking refused.0

  pub stays_pruning : (bound : ℕ) (r : Result Pruned StoreFault) → IfOk r (HasPruned s.start bound old new) → IfErr r (HasFailedPruning s.start bound old new) → Stays s old new
  stays_pruning bound (Ok p) pruned no_fault = stays_own _ _ pruned.adds
  stays_pruning bound (Err f) not_pruned fault = pruning_failed bound f fault

  pub stays_compacting : (r : Result ℕ StoreFault) → IfOk r (HasCompacted s.start old new) → IfErr r (HasFailed s.start attempt.Compacts compact_faults old new) → Stays s old new
  stays_compacting (Ok g) compacted no_fault = stays_own _ _ compacted.adds
  stays_compacting (Err f) not_compacted fault = failed attempt.Compacts compact_faults f fault

  pub stays_pinning : (place : PlaceView) (pinned : List (Option SnapshotValue)) → new ≡ record old { place = place; pinned = pinned } → Stays s old new
  stays_pinning place pinned e = ((ap (λ (p : Pass). p.store) e ∙ own.0, ap (λ (p : Pass). p.start) e ∙ own.1), ap (λ (p : Pass). p.number) e)
