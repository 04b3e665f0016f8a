-- The results for a session of pinning a version and of freeing a place.
use Rattle.std.proofs.Common.{◌≡◌, ◌⊎◌, ◌∙◌, inl, inr, ℕ, zero, suc, ◌+◌, Bool, false, cond, Option, Some, None, List, [], ◌∷◌, ◌++◌, refl, sym, ap, ap₂, subst, arith, append-nil}
use Rattle.std.specs.Prelude.{nat_le, nat_lt, is_none, slice_index_or, slice_set, option_map, unwrap_or}
use Rattle.std.specs.List.{position_or_len}
use Rattle.std.proofs.lemmas.Bool.{ltb-false}
use Rattle.std.proofs.lemmas.List.{map-set}
use Rattle.jf_path.specs.Checks.{first_of}
use Rattle.jf_hash.specs.Maps.{Batch}
use Rattle.jf_model.specs.Versions.{map_of}
use Rattle.jf_model.specs.States.{State}
use Rattle.jf_node.specs.SnapshotValue.{SnapshotValue}
use Rattle.jf_turn.specs.Lists.{HasElement}
use Rattle.jf_store.specs.declared.event.Event.{Event}
use Rattle.jf_store.specs.declared.fault.StoreFault.{StoreFault}
use Rattle.jf_store.specs.Events.{is_marked}
use Rattle.jf_store.specs.Starts.{Start}
use Rattle.jf_store.specs.Ledgers.{state_after_events}
use Rattle.jf_store.specs.Refusals.{version_faults}
use Rattle.jf_store.specs.Passes.{Store, PinsState, Pass, OthersAlone}
use Rattle.jf_store.specs.Pins.{shown_pins, unpinned_at}
use Rattle.jf_store.specs.PinnedVersions.{full_faults, SeesToPin, HasPinnedVersion, HasNotPinned}
use Rattle.jf_store.proofs.RefusalLaws.{first_of-none}
use Rattle.jf_script.specs.declared.command.Command.TheVariants as command
use Rattle.jf_script.specs.declared.command.OwnCommand.TheVariants as own_command
use Rattle.jf_script.specs.declared.reply.Refusal.TheVariants as refusal
use Rattle.jf_script.specs.declared.reply.Reply.TheVariants as reply
use Rattle.jf_answers.specs.Own.{version_pinned_at, free_place, with_pin}
use Rattle.jf_answers.specs.Answers.{Answer}
use Rattle.jf_answers.specs.Refusals.{causes, version_causes, place_causes, refused_by}
use Rattle.jf_answers.proofs.AnswerLaws.{unrefused}
use Rattle.jf_history.specs.Sessions.{Session, pinned_versions}
use Rattle.jf_session.specs.Steps.{session_of, FollowsCommand, DoneByLook, IsDoneAs, IsSoundSession, TellsMap}
use Rattle.jf_session.proofs.Entering.{own_of}
use Rattle.jf_session.proofs.KeptMaps.{TellsMap-kept}
use Rattle.jf_session.proofs.Refusals.{AreTold, AreTold-append, granted-command}
use Rattle.jf_session.proofs.BaseLaws.{Sees-self, unmarked-on, pinned_version}
use Rattle.jf_session.proofs.Refused.{SeesMore, answer-refused, follows-Sees, Refuses-all}
use Rattle.jf_session.proofs.RefusedCalls.{Fails}
use Rattle.jf_session.proofs.ToldFaults.{AreTold-version}

-- ---- pins and the snapshots pinned
-- the least free place is the least without a snapshot
free_alike : (ss : List (Option SnapshotValue)) → position_or_len is_none (pinned_versions ss) ≡ position_or_len is_none ss
free_alike [] = refl
free_alike (None ∷ ss) = refl
free_alike (Some s ∷ ss) = ap (λ n. 1 + n) (free_alike ss)

-- where one element was set, the others are as before
set_or_same : (ss : List (Option SnapshotValue)) (k i : ℕ) (o : Option SnapshotValue) (s : SnapshotValue) → slice_index_or (slice_set ss k o) i None ≡ Some s → (slice_index_or ss i None ≡ Some s) ⊎ (o ≡ Some s)
set_or_same [] k i o s e = inl e
set_or_same (x ∷ ss) zero zero o s e = inr e
set_or_same (x ∷ ss) zero (suc i) o s e = inl e
set_or_same (x ∷ ss) (suc k) zero o s e = inl e
set_or_same (x ∷ ss) (suc k) (suc i) o s e = set_or_same ss k i o s e

-- the session's pins after one was set
own_set : (p p' : Pass) (pending : Batch) (place : ℕ) (o : Option SnapshotValue) → p'.number ≡ p.number → p'.pinned ≡ slice_set p.pinned place o
    → own_of p' pending ≡ with_pin place (option_map (λ (t : SnapshotValue). t.version) o) (own_of p pending)
own_set p p' pending place o number pins =
    ap₂ (λ (n : ℕ) (vs : List (Option ℕ)). record { number = n; pending = pending; pins = vs }) number (ap pinned_versions pins ∙ map-set (λ (x : Option SnapshotValue). option_map (λ (t : SnapshotValue). t.version) x) p.pinned place o)

-- ---- pin
follows-pin : (p p' : Pass) (version : ℕ) → SeesToPin version p p' → FollowsCommand p p' (command.Pin version)
follows-pin p p' version sees = record {
  begins = sees.begins;
  same = sees.same;
  announced = λ w has. elim (sees.announced w has) as (λ o. HasElement p.place.announced w ⊎ (Some version ≡ Some w)) [ inl was ↦ inl was | inr is ↦ inr (ap (λ v. Some v) (sym is)) ];
}

module _ (start : Start) (p p' : Pass) (pending : Batch) (version : ℕ) where
  abbrev s : State
  s = state_after_events start p'.seen

  AreTold-pin : AreTold (version_faults version s ++ full_faults p.pinned) (version_causes s version ++ place_causes (own_of p pending))
  AreTold-pin = AreTold-append (version_faults version s) (full_faults p.pinned) (version_causes s version) (place_causes (own_of p pending)) (AreTold-version s version) (ap (λ n. nat_le 8 n) (sym (free_alike p.pinned)), refl, tt)

  -- a version was not pinned
  pub Fails-pin : (f : StoreFault) → HasNotPinned start version p p' f → Fails start p p' pending (command.Pin version) f
  Fails-pin f h =
      let sees : SeesMore p p' (command.Pin version) = record { follows = follows-pin p p' version h.keeps.sees; others = h.keeps.sees.others; pinned = h.keeps.pinned } in
      inr (Refuses-all start p p' pending (command.Pin version) f sees (version_faults version s ++ full_faults p.pinned) AreTold-pin h.refusal)

  module _ (place : ℕ) (h : HasPinnedVersion start version p p' place) where
    free : (is_marked p'.seen ≡ false) × (first_of (causes s (own_of p pending) (command.Pin version)) ≡ None)
    free = granted-command p'.seen (version_faults version s ++ full_faults p.pinned) (version_causes s version ++ place_causes (own_of p pending)) AreTold-pin h.granted

    -- it was pinned at the least free place
    pub IsDoneAs-pinned : (over over' : Bool) (old : Session) → session_of p pending over ≡ old → IsDoneAs start old (session_of p' pending over') (command.Pin version) (reply.Pin place) []
    unfolding refused_by
    IsDoneAs-pinned over over' old view =
        let own = own_of p pending in
        let same = unrefused s own (command.Pin version) free.1 in
        let at : place ≡ free_place own = h.least ∙ sym (free_alike p.pinned) in
        let pins : own_of p' pending ≡ with_pin (free_place own) (Some version) own =
        own_set p p' pending place (Some h.snapshot) (ap (λ (q : Pass). q.number) h.sees.same) h.pinned ∙ ap₂ (λ i v. with_pin i (Some v) own) at h.read.1 in
        inl (subst (λ (o : Session). DoneByLook start o (session_of p' pending over') (command.Pin version) (reply.Pin place) []) view record {
          follows = follows-pin p p' version h.sees;
          others = h.sees.others;
          unmarked = free.0;
          quiet = ap (λ (x : Answer). x.entry) same;
          own = pins ∙ sym (ap (λ (x : Answer). x.own) same);
          reply = ap (λ i. reply.Pin i) at ∙ sym (ap (λ (x : Answer). x.reply) same);
          block_is = sym (ap (λ (x : Answer). x.block) same);
          by_itself = λ itself. absurd (cc);
        })

    -- the snapshot tells the map of its version
    tells : TellsMap start p'.seen h.snapshot
    tells =
        let high = first_of-none (nat_lt s.all.head version) (refusal.Future s.all.head) ((nat_lt version s.retired, refusal.Retired s.retired) ∷ place_causes (own_of p pending)) free.1 in
        let below = ltb-false s.all.head version high.0 in
        record { below = omega (arith, below, h.read.1); map_is = h.read.0 ∙ ap (map_of s.all) (sym h.read.1) }

    pub IsSoundSession-pinned : (over over' : Bool) → p.start ≡ Some start → IsSoundSession (session_of p pending over) → IsSoundSession (session_of p' pending over')
    IsSoundSession-pinned over over' begun is = record {
      whole = inr free.0;
      pins = λ start' known i x there.
          let was : p.start ≡ Some start' = sym (ap (λ (q : Pass). q.start) h.sees.same) ∙ known in
          elim (set_or_same p.pinned place i (Some h.snapshot) x (sym (ap (λ ss. slice_index_or ss i None) h.pinned) ∙ there)) as (λ o. TellsMap start' p'.seen x) [
            | inl old ↦ TellsMap-kept start' p.seen p'.seen x h.sees.begins (is.pins start' was i x old)
            | inr new ↦ (
                let e : Some start ≡ Some start' = sym begun ∙ was in
                let same : start ≡ start' = cc in
                let it : h.snapshot ≡ x = cc in
                subst (λ (t : Start). TellsMap t p'.seen x) same (subst (TellsMap start p'.seen) it tells)
                )
          ];
    }

-- ---- unpin
module _ (start : Start) (store : Store) (p p' : Pass) (pending : Batch) (place : ℕ) (over : Bool) (is : IsSoundSession (session_of p pending over)) where
  module _ (pins : shown_pins store p' ≡ unpinned_at (shown_pins store p) place) (same : p' ≡ record p { place = p'.place; pinned = p'.pinned }) where
    seen : p'.seen ≡ p.seen
    seen = ap (λ (q : Pass). q.seen) same

    emptied : p'.pinned ≡ slice_set p.pinned place None
    emptied = ap (λ (q : PinsState). q.pinned) pins

    follows-unpin : FollowsCommand p p' (command.Own (own_command.Unpin place))
    follows-unpin = record {
      begins = ([], seen ∙ sym (append-nil p.seen));
      same = same ∙ ap (λ (xs : List Event). record p { seen = xs; place = p'.place; pinned = p'.pinned }) (sym seen);
      announced = λ version has. inl (subst (λ (ns : List ℕ). HasElement ns version) (ap (λ (q : PinsState). q.known.announced) pins) has);
    }

    -- a place was freed
    pub IsDoneAs-freed : (version : ℕ) → Some version ≡ option_map (λ (t : SnapshotValue). t.version) (slice_index_or p.pinned place None) → over ≡ false → (over' : Bool) (old : Session) → session_of p pending over ≡ old
        → IsDoneAs start old (session_of p' pending over') (command.Own (own_command.Unpin place)) (reply.Unpin version) []
    unfolding refused_by
    IsDoneAs-freed version there on over' old view =
        let own = own_of p pending in
        let s = state_after_events start p'.seen in
        let held : version_pinned_at own place ≡ Some version = pinned_version p.pinned place ∙ sym there in
        let found = unrefused s own (command.Own (own_command.Unpin place)) (ap (λ o. cond (is_none o) (Some refusal.NoPin) None) held) in
        inl (subst (λ (o : Session). DoneByLook start o (session_of p' pending over') (command.Own (own_command.Unpin place)) (reply.Unpin version) []) view record {
          follows = follows-unpin;
          others = subst (OthersAlone p) (sym seen) (Sees-self p).others;
          unmarked = ap is_marked seen ∙ unmarked-on p pending over is on;
          quiet = ap (λ (x : Answer). x.entry) found;
          own = own_set p p' pending place None (ap (λ (q : Pass). q.number) same) emptied ∙ sym (ap (λ (x : Answer). x.own) found);
          reply = ap (λ o. reply.Unpin (unwrap_or o 0)) (sym held) ∙ sym (ap (λ (x : Answer). x.reply) found);
          block_is = sym (ap (λ (x : Answer). x.block) found);
          by_itself = λ itself. seen;
        })

    pub IsSoundSession-freed : IsSoundSession (session_of p' pending over)
    IsSoundSession-freed = record {
      whole = elim is.whole [ inl ended ↦ inl ended | inr clear ↦ inr (ap is_marked seen ∙ clear) ];
      pins = λ start' known i x there.
          elim (set_or_same p.pinned place i None x (sym (ap (λ ss. slice_index_or ss i None) emptied) ∙ there)) as (λ o. TellsMap start' p'.seen x) [
            | inl old ↦ subst (λ (xs : List Event). TellsMap start' xs x) (sym seen) (is.pins start' (sym (ap (λ (q : Pass). q.start) same) ∙ known) i x old)
            | inr new ↦ absurd (cc)
          ];
    }

  module _ (same : p' ≡ p) where
    -- the place held nothing
    pub IsDoneAs-not_freed : None ≡ option_map (λ (t : SnapshotValue). t.version) (slice_index_or p.pinned place None) → over ≡ false → (over' : Bool) (old : Session) → session_of p pending over ≡ old
        → IsDoneAs start old (session_of p' pending over') (command.Own (own_command.Unpin place)) (reply.No refusal.NoPin) []
    unfolding refused_by
    IsDoneAs-not_freed there on over' old view =
        let own = own_of p pending in
        let s = state_after_events start p.seen in
        let none : version_pinned_at own place ≡ None = pinned_version p.pinned place ∙ sym there in
        let found = answer-refused s own (command.Own (own_command.Unpin place)) refusal.NoPin (ap (λ o. cond (is_none o) (Some refusal.NoPin) None) none) in
        subst (λ (q : Pass). IsDoneAs start old (session_of q pending over') (command.Own (own_command.Unpin place)) (reply.No refusal.NoPin) []) (sym same)
        (inl (subst (λ (o : Session). DoneByLook start o (session_of p pending over') (command.Own (own_command.Unpin place)) (reply.No refusal.NoPin) []) view record {
          follows = follows-Sees p p (command.Own (own_command.Unpin place)) (Sees-self p);
          others = (Sees-self p).others;
          unmarked = unmarked-on p pending over is on;
          quiet = ap (λ (x : Answer). x.entry) found;
          own = sym (ap (λ (x : Answer). x.own) found);
          reply = sym (ap (λ (x : Answer). x.reply) found);
          block_is = sym (ap (λ (x : Answer). x.block) found);
          by_itself = λ itself. refl;
        }))
