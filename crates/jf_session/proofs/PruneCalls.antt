-- The result of a pruning by a pass, for `prune`.
use Rattle.std.proofs.Common.{◌≡◌, inl, inr, ℕ, List, ◌++◌, length, refl, ap, subst}
use Rattle.jf_path.specs.Limits.{max_pins}
use Rattle.jf_hash.specs.Maps.{Batch}
use Rattle.jf_model.specs.declared.entries.Entry.TheVariants as entry
use Rattle.jf_store.specs.declared.event.Event.{Event}
use Rattle.jf_store.specs.declared.fault.StoreFault.{StoreFault}
use Rattle.jf_store.specs.declared.pruned.Pruned.{Pruned}
use Rattle.jf_store.specs.Floors.{AreMet}
use Rattle.jf_store.specs.Ledgers.{AreEvents, state_after_events}
use Rattle.jf_store.specs.Refusals.{ledger_faults, version_faults}
use Rattle.jf_store.specs.Passes.{Store, Pass, ArePins}
use Rattle.jf_store.specs.Pins.{shown_pins}
use Rattle.jf_store.specs.Prunings.{HasPruned, HasFailedPruning}
use Rattle.jf_script.specs.declared.command.Command.TheVariants as command
use Rattle.jf_script.specs.declared.command.Change.TheVariants as change
use Rattle.jf_script.specs.declared.reply.Reply.TheVariants as reply
use Rattle.jf_answers.specs.Explains.{IsAmong}
use Rattle.jf_session.proofs.Entering.{own_of, Enters}
use Rattle.jf_session.proofs.Granting.{Grants-prune}
use Rattle.jf_session.proofs.LegalEvents.{legal_entry, legal_attempt}
use Rattle.jf_session.proofs.PrunedFloors.{IsMet-done, IsMet-mark, HasSoundFloor-pruned}
use Rattle.jf_session.proofs.Refused.{SeesMore-Sees, Refuses-all}
use Rattle.jf_session.proofs.RefusedCalls.{Fails}
use Rattle.jf_session.proofs.ToldFaults.{AreTold-prune}

module _ (store : Store) (p p' : Pass) (pending : Batch) (pins : ArePins (shown_pins store p)) (eight : length p.pinned ≡ max_pins) (are : AreEvents store.start p'.seen) (upto : ℕ) where
  pub Enters-prune : (r : Pruned) → HasPruned store.start upto p p' r → Enters store.start p p' pending pending (command.Change (change.Prune upto)) (reply.Prune r.bound r.floor)
  Enters-prune r h =
      let s = state_after_events store.start h.before in
      let e = entry.Retired p.number upto r.floor in
      let seen = ap (λ (q : Pass). q.seen) h.adds.last in
      record {
        before = h.before;
        event = e;
        follows = record {
          sees = h.adds;
          grants = Grants-prune s (own_of p pending) upto r.floor (legal_entry store.start p p' h.before are e h.adds);
          floor = HasSoundFloor-pruned store p pending pins eight store.start p'.seen h.before upto r.floor h.pinned
              (λ ns met. IsMet-done (λ pin. IsAmong ns pin.1) store.start h.before e (subst (λ (xs : List Event). AreMet (λ pin. IsAmong ns pin.1) store.start.state xs) seen met));
        };
        owned = refl;
        own = refl;
        reply = ap (λ n. reply.Prune n r.floor) h.bound_is;
        block = refl;
      }

  pub Fails-prune : (f : StoreFault) → HasFailedPruning store.start upto p p' f → Fails store.start p p' pending (command.Change (change.Prune upto)) f
  Fails-prune f (inl failed) =
      let h = failed.1 in
      let s = state_after_events store.start h.before in
      let e = entry.Retired p.number upto h.floor in
      let seen = ap (λ (q : Pass). q.seen) h.adds.last in
      inl (
        failed.0,
        record {
          before = h.before;
          attempt = e;
          follows = record {
            sees = h.adds;
            grants = Grants-prune s (own_of p pending) upto h.floor (legal_attempt store.start p p' h.before are p.number e h.adds).legal;
            floor = HasSoundFloor-pruned store p pending pins eight store.start p'.seen h.before upto h.floor h.pinned
                (λ ns met. IsMet-mark (λ pin. IsAmong ns pin.1) store.start h.before p.number e (subst (λ (xs : List Event). AreMet (λ pin. IsAmong ns pin.1) store.start.state xs) seen met));
          };
        },
      )
  Fails-prune f (inr refused) =
      let s = state_after_events store.start p'.seen in
      let c = command.Change (change.Prune upto) in
      inr (Refuses-all store.start p p' pending c f (SeesMore-Sees p p' c refused.0) (ledger_faults s ++ version_faults upto s) (AreTold-prune s upto) refused.1)
