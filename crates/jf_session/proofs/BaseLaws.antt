-- What a pass has seen and what it pins, when the map of a base is read.
use Rattle.std.proofs.Common.{◌≡◌, ◌⊎◌, inl, inr, ◌∙◌, ℕ, zero, suc, Bool, true, false, cond, Option, Some, None, option_map, List, [], ◌∷◌, length, refl, sym, ap, arith, append-nil}
use Rattle.std.specs.Prelude.{slice_index_or, slice_get, is_none, unwrap_or, option_and_then}
use Rattle.std.proofs.lemmas.List.{drop_all}
use Rattle.jf_path.specs.Checks.{first_of}
use Rattle.jf_hash.specs.Maps.{Batch}
use Rattle.jf_model.specs.Versions.{map_of}
use Rattle.jf_model.specs.States.{State}
use Rattle.jf_node.specs.SnapshotValue.{SnapshotValue}
use Rattle.jf_turn.specs.Lists.{HasElement}
use Rattle.jf_store.specs.Events.{is_marked}
use Rattle.jf_store.specs.Starts.{Start}
use Rattle.jf_store.specs.Ledgers.{state_after_events}
use Rattle.jf_store.specs.Passes.{Pass, Sees}
use Rattle.jf_script.specs.declared.command.Base.TheVariants as base
use Rattle.jf_script.specs.declared.reply.Refusal.TheVariants as refusal
use Rattle.jf_answers.specs.Own.{Own, version_pinned_at}
use Rattle.jf_answers.specs.Refusals.{base_causes, base_map}
use Rattle.jf_history.specs.Sessions.{pinned_versions}
use Rattle.jf_session.specs.Steps.{session_of, IsSoundSession, TellsMap}
use Rattle.jf_session.proofs.Entering.{own_of}
use Rattle.jf_session.proofs.KeptMaps.{PinsTell-kept}

-- ---- what a pass has seen
none_there : {A : Type 0} (xs : List A) (x : A) → xs ≡ [] → HasElement xs x → ⊥
none_there [] x e (k, is) = absurd (cc)
none_there (y ∷ ys) x e has = absurd (cc)

-- nothing more was seen
pub Sees-self : (p : Pass) → Sees p p
Sees-self p = record {
  begins = ([], sym (append-nil p.seen));
  others = λ x has named. none_there _ x (drop_all (length p.seen) p.seen (omega arith)) has;
  same = refl;
}

-- a pass that has seen more keeps what the session owes to it
pub IsSoundSession-seen : (p p' : Pass) (pending pending' : Batch) (over over' : Bool) → IsSoundSession (session_of p pending over) → Sees p p' → (over' ≡ true) ⊎ (is_marked p'.seen ≡ false) → IsSoundSession (session_of p' pending' over')
IsSoundSession-seen p p' pending pending' over over' sound sees whole = record {
  whole = whole;
  pins = PinsTell-kept p p' sees.begins (ap (λ (q : Pass). q.start) sees.same) (ap (λ (q : Pass). q.pinned) sees.same) sound.pins;
}

-- a session that isn't over has seen no mark
pub unmarked-on : (p : Pass) (pending : Batch) (over : Bool) → IsSoundSession (session_of p pending over) → over ≡ false → is_marked p.seen ≡ false
unmarked-on p pending over sound goes = by sound.whole
  where
    by : (over ≡ true) ⊎ (is_marked p.seen ≡ false) → is_marked p.seen ≡ false
    by (inl ends) = absurd (let e : true ≡ false = sym ends ∙ goes in cc)
    by (inr clear) = clear

-- ---- pinned places
-- the version that a session has pinned at a place is that of the snapshot
pub pinned_version : (xs : List (Option SnapshotValue)) (place : ℕ) → option_and_then (λ p. p) (slice_get (pinned_versions xs) place) ≡ option_map (λ (t : SnapshotValue). t.version) (slice_index_or xs place None)
pinned_version [] zero = refl
pinned_version [] (suc place) = refl
pinned_version (x ∷ xs) zero = refl
pinned_version (x ∷ xs) (suc place) = pinned_version xs place

module _ (start : Start) (p : Pass) (pending : Batch) (place : ℕ) where
  abbrev here : State
  here = state_after_events start p.seen

  abbrev mine : Own
  mine = own_of p pending

  pin_there : (o : Option SnapshotValue) → slice_index_or p.pinned place None ≡ o → version_pinned_at mine place ≡ option_map (λ (u : SnapshotValue). u.version) o
  pin_there o there = pinned_version p.pinned place ∙ ap (option_map (λ (u : SnapshotValue). u.version)) there

  -- a snapshot that is pinned at a place can be read
  pub pin-free : (t : SnapshotValue) → slice_index_or p.pinned place None ≡ Some t → first_of (base_causes here mine (base.Place place)) ≡ None
  pin-free t there = ap (λ o. cond (is_none o) (Some refusal.NoPin) None) (pin_there (Some t) there)

  -- and is the map of the place
  pub pin-map : (over : Bool) → IsSoundSession (session_of p pending over) → p.start ≡ Some start → (t : SnapshotValue) → slice_index_or p.pinned place None ≡ Some t → t.map ≡ base_map here mine (base.Place place)
  pin-map over sound on_store t there =
      let tells : TellsMap start p.seen t = sound.pins start on_store place t there in
      tells.map_is ∙ ap (λ o. map_of here.all (unwrap_or o 0)) (sym (pin_there (Some t) there))

  -- without one the place is refused
  pub pin-refused : slice_index_or p.pinned place None ≡ None → first_of (base_causes here mine (base.Place place)) ≡ Some refusal.NoPin
  pin-refused there = ap (λ o. cond (is_none o) (Some refusal.NoPin) None) (pin_there None there)
