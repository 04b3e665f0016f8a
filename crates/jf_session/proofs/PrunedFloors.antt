-- The floor of a pruning, by the pins of the session's pass.
use Rattle.std.proofs.Common.{◌≡◌, ◌⊎◌, ◌∙◌, inl, inr, ℕ, ◌<◌, ◌≤◌, Some, None, List, [], ◌∷◌, ◌++◌, length, sym, ap, subst, arith}
use Rattle.std.specs.Prelude.{min, max, slice_index_or, option_map}
use Rattle.jf_path.specs.Limits.{max_pins}
use Rattle.jf_hash.specs.Maps.{Batch}
use Rattle.jf_model.specs.States.{State}
use Rattle.jf_model.specs.Entries.{after, replay}
use Rattle.jf_model.specs.declared.entries.Entry.{Entry}
use Rattle.jf_model.specs.declared.entries.Entry.TheVariants as entry
use Rattle.jf_node.specs.SnapshotValue.{SnapshotValue}
use Rattle.jf_store.specs.declared.event.Event.{Event}
use Rattle.jf_store.specs.declared.event.Event.TheVariants.{Done, Mark}
use Rattle.jf_store.specs.Starts.{Start}
use Rattle.jf_store.specs.Floors.{IsMet, AreMet}
use Rattle.jf_store.specs.Ledgers.{state_after_events}
use Rattle.jf_store.specs.Passes.{Store, Pass, ArePins}
use Rattle.jf_store.specs.Pins.{shown_pins}
use Rattle.jf_store.specs.Prunings.{HasConfirmed, IsPinnedFloor}
use Rattle.jf_store.proofs.PinnedFloors.{pinned-confirmed, confirmed-pinned}
use Rattle.jf_answers.specs.Explains.{Timeline, IsAmong}
use Rattle.jf_history.specs.Sessions.{HaveMet, HasPinned}
use Rattle.jf_history.proofs.Spared.{each_version, below_length}
use Rattle.jf_session.proofs.BaseLaws.{pinned_version}
use Rattle.jf_session.proofs.Entering.{own_of, HasSoundFloor}

-- ---- the floor of one event
-- the floor of the entry after these events is met
pub IsMet-done : (P : ℕ × ℕ → Type 0) (start : Start) (xs : List Event) (e : Entry) → AreMet P start.state (xs ++ Done e ∷ []) → IsMet P (state_after_events start xs) e
unfolding replay
IsMet-done P start xs e met = at start.state xs met
  where
    at : (s : State) (xs : List Event) → AreMet P s (xs ++ Done e ∷ []) → IsMet P (state_after_events (record start { state = s }) xs) e
    at s [] m = m.0
    at s (Done x ∷ xs) m = at (after x s) xs m.1
    at s (Mark pass x ∷ xs) m = at s xs m.1

-- and so is that of an attempt
pub IsMet-mark : (P : ℕ × ℕ → Type 0) (start : Start) (xs : List Event) (pass : ℕ) (e : Entry) → AreMet P start.state (xs ++ Mark pass e ∷ []) → IsMet P (state_after_events start xs) e
unfolding replay
IsMet-mark P start xs pass e met = at start.state xs met
  where
    at : (s : State) (xs : List Event) → AreMet P s (xs ++ Mark pass e ∷ []) → IsMet P (state_after_events (record start { state = s }) xs) e
    at s [] m = m.0
    at s (Done x ∷ xs) m = at (after x s) xs m.1
    at s (Mark p x ∷ xs) m = at s xs m.1

-- ---- what is pinned
module _ (store : Store) (p : Pass) (pending : Batch) (are : ArePins (shown_pins store p)) (eight : length p.pinned ≡ max_pins) where
  HasPinned-confirmed : (version : ℕ) → HasConfirmed p.place version → HasPinned (own_of p pending) version
  HasPinned-confirmed version has = let found = pinned-confirmed (shown_pins store p) are version has in (found.0, pinned_version p.pinned found.0 ∙ found.2)

  HasConfirmed-pinned : (i : ℕ) (s : SnapshotValue) → slice_index_or p.pinned i None ≡ Some s → HasConfirmed p.place s.version
  HasConfirmed-pinned i s there = confirmed-pinned (shown_pins store p) are s.version i (let below = below_length p.pinned i s there in omega (arith, below, eight)) (ap (option_map (λ (t : SnapshotValue). t.version)) there)

  held_met : (passes : ℕ) (s : State) (bound floor : ℕ) → IsMet (λ pin. (pin.0 < passes) × (pin.0 ≡ p.number → HasConfirmed p.place pin.1)) s (entry.Retired p.number bound floor)
      → IsMet (λ pin. (pin.0 < passes) × (pin.0 ≡ p.number → HasPinned (own_of p pending) pin.1)) s (entry.Retired p.number bound floor)
  held_met passes s bound floor (inl e) = inl e
  held_met passes s bound floor (inr x) = inr (x.0, (x.1.0, λ mine. HasPinned-confirmed x.0.1 (x.1.1 mine)), x.2, x.3)

  allowed_by : (h : Timeline) (s : State) (bound floor : ℕ) → IsMet (λ pin. IsAmong h.pins pin.1) s (entry.Retired p.number bound floor)
      → (floor ≡ max s.floor bound) ⊎ ((w : ℕ) × IsAmong h.pins w × (floor ≡ max s.floor (min bound w)))
  allowed_by h s bound floor (inl e) = inl e
  allowed_by h s bound floor (inr x) = let below = x.2 in let is = x.3 in inr (x.0.1, x.1, omega arith)

  -- the floor is sound, if it is met among the events
  pub HasSoundFloor-pruned : (start : Start) (events before : List Event) (bound floor : ℕ) → IsPinnedFloor start.passes p.number p.place (state_after_events start before) bound floor
      → ((pins : List ℕ) → HaveMet pins start events → IsMet (λ pin. IsAmong pins pin.1) (state_after_events start before) (entry.Retired p.number bound floor))
      → HasSoundFloor start (own_of p pending) events before (entry.Retired p.number bound floor)
  HasSoundFloor-pruned start events before bound floor is met = record {
    allowed = λ pins h t same. (
      allowed_by t (state_after_events start before) bound floor (subst (λ ps. IsMet (λ pin. IsAmong ps pin.1) (state_after_events start before) (entry.Retired p.number bound floor)) (sym same) (met pins h)),
      each_version (λ v. floor ≤ max (state_after_events start before).floor v) p.pinned (λ i s e. is.under s.version (HasConfirmed-pinned i s e)),
    );
    held = held_met start.passes (state_after_events start before) bound floor is.met;
  }
