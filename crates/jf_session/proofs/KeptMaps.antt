-- The maps of the versions that a pass has seen stay when it sees more.
use Rattle.std.proofs.Common.{◌≡◌, ℕ, suc, ◌+◌, ◌-◌, ◌≤◌, None, List, [], ◌∷◌, refl, sym, ap, subst, ◌∙◌, arith, le_refl}
use Rattle.std.specs.Prelude.{slice_index_or}
use Rattle.std.specs.FinMap as fin
use Rattle.jf_hash.specs.Maps.{Batch, apply}
use Rattle.jf_model.specs.Versions.{Versions, map_of, versions_after_landing, land_all, newest}
use Rattle.jf_model.specs.States.{State}
use Rattle.jf_model.specs.Entries.{after, replay, landed_batches}
use Rattle.jf_model.specs.declared.entries.Entry.{Entry}
use Rattle.jf_model.specs.declared.entries.Entry.TheVariants as entry
use Rattle.jf_model.proofs.EntryLaws.{replay-append}
use Rattle.jf_node.specs.SnapshotValue.{SnapshotValue}
use Rattle.jf_turn.specs.Lists.{StartsWith}
use Rattle.jf_store.specs.declared.event.Event.{Event}
use Rattle.jf_store.specs.Events.{entries_among}
use Rattle.jf_store.specs.Starts.{Start}
use Rattle.jf_store.specs.Ledgers.{state_after_events}
use Rattle.jf_store.specs.Passes.{Pass}
use Rattle.jf_store.proofs.EventLaws.{entries_of-append}
use Rattle.jf_session.specs.Steps.{TellsMap, PinsTell}

-- the head doesn't fall, and the maps up to it stay
pub record KeepsMaps (old new : Versions) : Type 0 where
  pub rises : old.head ≤ new.head
  pub same : (w : ℕ) → w ≤ old.head → map_of new w ≡ map_of old w

pub KeepsMaps-self : (v : Versions) → KeepsMaps v v
KeepsMaps-self v = record { rises = le_refl v.head; same = λ w le. refl }

pub KeepsMaps-then : (u v w : Versions) → KeepsMaps u v → KeepsMaps v w → KeepsMaps u w
KeepsMaps-then u v w a b = record { rises = omega (arith, a.rises, b.rises); same = λ n le. b.same n (omega (arith, le, a.rises)) ∙ a.same n le }

-- ---- landings
KeepsMaps-landed : (b : Batch) (v : Versions) → KeepsMaps v (versions_after_landing b v)
KeepsMaps-landed b v = record {
  rises = omega arith;
  same = λ w le. let e : v.head + 1 - w ≡ suc (v.head - w) = omega arith in ap (λ i. slice_index_or (apply (newest v) b ∷ v.maps) i fin.empty) e;
}

KeepsMaps-land_all : (bs : List Batch) (v : Versions) → KeepsMaps v (land_all bs v)
KeepsMaps-land_all [] v = KeepsMaps-self v
KeepsMaps-land_all (b ∷ bs) v = KeepsMaps-then v (versions_after_landing b v) (land_all bs (versions_after_landing b v)) (KeepsMaps-landed b v) (KeepsMaps-land_all bs (versions_after_landing b v))

-- ---- entries
pub KeepsMaps-after : (e : Entry) (s : State) → KeepsMaps s.all (after e s).all
unfolding after
KeepsMaps-after (entry.Made owner fork parent batch r) s = KeepsMaps-self s.all
KeepsMaps-after (entry.Landed owner version how r moment) s = KeepsMaps-land_all (landed_batches s how) s.all
KeepsMaps-after (entry.Dropped owner fork) s = KeepsMaps-self s.all
KeepsMaps-after (entry.Retired owner bound floor) s = KeepsMaps-self s.all
KeepsMaps-after (entry.Compacted owner generation) s = KeepsMaps-self s.all

pub KeepsMaps-replay : (s : State) (es : List Entry) → KeepsMaps s.all (replay s es).all
unfolding replay
KeepsMaps-replay s [] = KeepsMaps-self s.all
KeepsMaps-replay s (e ∷ es) = KeepsMaps-then s.all (after e s).all (replay (after e s) es).all (KeepsMaps-after e s) (KeepsMaps-replay (after e s) es)

-- ---- events
pub KeepsMaps-behind : (start : Start) (old new : List Event) → StartsWith new old → KeepsMaps (state_after_events start old).all (state_after_events start new).all
KeepsMaps-behind start old new begins =
    let more = entries_among begins.0 in
    let same : state_after_events start new ≡ replay (state_after_events start old) more =
    ap (λ xs. state_after_events start xs) begins.1 ∙ ap (replay start.state) (entries_of-append old begins.0) ∙ replay-append start.state (entries_among old) more in
    subst (λ (s : State). KeepsMaps (state_after_events start old).all s.all) (sym same) (KeepsMaps-replay (state_after_events start old) more)

-- ---- pins
-- what is pinned is still the map of its version
pub TellsMap-kept : (start : Start) (old new : List Event) (s : SnapshotValue) → StartsWith new old → TellsMap start old s → TellsMap start new s
TellsMap-kept start old new s begins t =
    let k = KeepsMaps-behind start old new begins in
    record { below = omega (arith, t.below, k.rises); map_is = t.map_is ∙ sym (k.same s.version t.below) }

-- so it is of all pins, if a pass that holds the same has seen more
pub PinsTell-kept : (old new : Pass) → StartsWith new.seen old.seen → new.start ≡ old.start → new.pinned ≡ old.pinned → PinsTell old → PinsTell new
PinsTell-kept old new begins origin pins t = λ start is i s there.
    TellsMap-kept start old.seen new.seen s begins (t start (sym origin ∙ is) i s (ap (λ ps. slice_index_or ps i None) (sym pins) ∙ there))
