-- The results of the calls of a pass that change the store, each for its command.
use Rattle.std.proofs.Common.{◌≡◌, ◌∙◌, inl, inr, ℕ, ◌+◌, List, [], ◌∷◌, ◌++◌, length, refl, sym, ap, ap₂, subst}
use Rattle.jf_hash.specs.Maps.{Batch}
use Rattle.jf_hash.specs.Roots.{root}
use Rattle.jf_model.specs.States.{State, IsState}
use Rattle.jf_model.specs.Entries.{landed_batches}
use Rattle.jf_model.specs.declared.entries.Entry.{Entry}
use Rattle.jf_model.specs.declared.entries.Entry.TheVariants as entry
use Rattle.jf_model.specs.declared.entries.Landing.TheVariants as landing
use Rattle.jf_model.specs.declared.entries.Parent.{Parent}
use Rattle.jf_model.proofs.VersionLaws.{land_all-newest}
use Rattle.jf_engine.specs.declared.landed.Landed.{Landed}
use Rattle.jf_forks.specs.declared.table.Forked.{Forked}
use Rattle.jf_store.specs.declared.event.Event.TheVariants.{Done, Mark}
use Rattle.jf_store.specs.declared.fault.StoreFault.{StoreFault}
use Rattle.jf_store.specs.Events.{landing_entry}
use Rattle.jf_store.specs.Starts.{Start}
use Rattle.jf_store.specs.Ledgers.{AreEvents, state_after_events}
use Rattle.jf_store.specs.Refusals.{commit_faults, ledger_faults, landing_faults, fork_faults, making_faults, make_faults, drop_faults}
use Rattle.jf_store.specs.Landings.{land_faults, chain_faults}
use Rattle.jf_store.specs.Forkings.{making_entry, HasMade, HasDropped, HasBeenRefused}
use Rattle.jf_store.specs.Compactions.{generation_faults, compact_faults, HasCompacted}
use Rattle.jf_store.specs.declared.tried.Attempt.TheVariants as attempt
use Rattle.jf_store.specs.Passes.{Pass, HasLanded, HasFailed}
use Rattle.jf_script.specs.declared.command.Command.TheVariants as command
use Rattle.jf_script.specs.declared.command.Change.TheVariants as change
use Rattle.jf_script.specs.declared.reply.Reply.TheVariants as reply
use Rattle.jf_answers.specs.Own.{Own}
use Rattle.jf_session.proofs.Granting.{Grants-commit, Grants-land, Grants-fork, Grants-drop, Grants-compact}
use Rattle.jf_session.proofs.Entering.{own_of, Enters}
use Rattle.jf_session.proofs.LegalEvents.{sound_before, legal_entry, legal_attempt}
use Rattle.jf_session.proofs.Refused.{SeesMore-Sees, Refuses-all}
use Rattle.jf_session.proofs.RefusedCalls.{Fails}
use Rattle.jf_session.proofs.ToldFaults.{AreTold-commit, AreTold-land, AreTold-make, AreTold-drop, AreTold-compact}

-- the version and the root of a landing
abbrev pub version_in : Entry → ℕ
version_in (entry.Landed owner version how r moment) = version
version_in e = 0

abbrev pub root_in : Entry → List ℕ
root_in (entry.Landed owner version how r moment) = r
root_in (entry.Made owner fork parent batch r) = r
root_in e = []

-- the number of a fork made
abbrev fork_in : Entry → ℕ
fork_in (entry.Made owner fork parent batch r) = fork
fork_in e = 0

module _ (start : Start) (p p' : Pass) (pending : Batch) (are : AreEvents start p'.seen) (sound : IsState start.state) where
  abbrev own : Own
  own = own_of p pending

  -- the state after all that the pass has then seen
  abbrev at_end : State
  at_end = state_after_events start p'.seen

  -- ---- commit
  commit_entered : (l : Landed) → HasLanded start (landing.Direct pending) p p' l → (none : Batch) → none ≡ [] → Enters start p p' pending none (command.Change change.Commit) (reply.Commit l.version l.root)
  commit_entered l h none is =
      let s = state_after_events start h.before in
      let e = landing_entry p.number s (landing.Direct pending) l.moment in
      record {
        before = h.before;
        event = e;
        follows = record { sees = h.adds; grants = Grants-commit s own l.moment (legal_entry start p p' h.before are e h.adds); floor = record { allowed = λ pins met t is. tt; held = tt } };
        owned = refl;
        own = ap (own_of p) is;
        reply = ap₂ (λ v r. reply.Commit v r) (sym (ap version_in h.answer)) (sym (ap root_in h.answer) ∙ ap root (land_all-newest (pending ∷ []) s.all));
        block = refl;
      }

  commit_failed : (f : StoreFault) → HasFailed start (attempt.Lands (landing.Direct pending)) commit_faults p p' f → Fails start p p' pending (command.Change change.Commit) f
  commit_failed f (inl failed) =
      let h = failed.1 in
      let s = state_after_events start h.before in
      let e = landing_entry p.number s (landing.Direct pending) 0 in
      inl (
        failed.0,
        record {
          before = h.before;
          attempt = e;
          follows = record { sees = h.adds; grants = Grants-commit s own 0 (legal_attempt start p p' h.before are p.number e h.adds).legal; floor = record { allowed = λ pins met t is. tt; held = tt } };
        },
      )
  commit_failed f (inr refused) = inr (Refuses-all start p p' pending (command.Change change.Commit) f (SeesMore-Sees p p' (command.Change change.Commit) refused.0) (ledger_faults at_end ++ landing_faults 1 at_end) (AreTold-commit at_end) refused.1)

  -- the batch is what is pending
  pub Enters-commit : (b : Batch) → b ≡ pending → (l : Landed) → HasLanded start (landing.Direct b) p p' l → (none : Batch) → none ≡ [] → Enters start p p' pending none (command.Change change.Commit) (reply.Commit l.version l.root)
  Enters-commit b same l h none is = commit_entered l (subst (λ x. HasLanded start (landing.Direct x) p p' l) same h) none is

  pub Fails-commit : (b : Batch) → b ≡ pending → (f : StoreFault) → HasFailed start (attempt.Lands (landing.Direct b)) commit_faults p p' f → Fails start p p' pending (command.Change change.Commit) f
  Fails-commit b same f failed = commit_failed f (subst (λ x. HasFailed start (attempt.Lands (landing.Direct x)) commit_faults p p' f) same failed)

  -- ---- land
  pub Enters-land : (id : ℕ) (l : Landed) → HasLanded start (landing.Fork id) p p' l → Enters start p p' pending pending (command.Change (change.Land id)) (reply.Land l.version l.root)
  Enters-land id l h =
      let s = state_after_events start h.before in
      let e = landing_entry p.number s (landing.Fork id) l.moment in
      record {
        before = h.before;
        event = e;
        follows = record {
          sees = h.adds;
          grants = Grants-land s own id l.moment (sound_before start p p' h.before are (Done e) h.adds sound) (legal_entry start p p' h.before are e h.adds);
          floor = record { allowed = λ pins met t is. tt; held = tt };
        };
        owned = refl;
        own = refl;
        reply = ap₂ (λ v r. reply.Land v r) (sym (ap version_in h.answer)) (sym (ap root_in h.answer) ∙ ap root (land_all-newest (landed_batches s (landing.Fork id)) s.all));
        block = refl;
      }

  pub Fails-land : (id : ℕ) (f : StoreFault) → HasFailed start (attempt.Lands (landing.Fork id)) (land_faults id) p p' f → Fails start p p' pending (command.Change (change.Land id)) f
  Fails-land id f (inl failed) =
      let h = failed.1 in
      let s = state_after_events start h.before in
      let e = landing_entry p.number s (landing.Fork id) 0 in
      inl (
        failed.0,
        record {
          before = h.before;
          attempt = e;
          follows = record {
            sees = h.adds;
            grants = Grants-land s own id 0 (sound_before start p p' h.before are (Mark p.number e) h.adds sound) (legal_attempt start p p' h.before are p.number e h.adds).legal;
            floor = record { allowed = λ pins met t is. tt; held = tt };
          };
        },
      )
  Fails-land id f (inr refused) = inr (Refuses-all start p p' pending (command.Change (change.Land id)) f (SeesMore-Sees p p' (command.Change (change.Land id)) refused.0) (ledger_faults at_end ++ fork_faults id at_end ++ chain_faults id at_end ++ landing_faults (length (landed_batches at_end (landing.Fork id))) at_end) (AreTold-land at_end id) refused.1)

  -- ---- fork
  fork_entered : (on : Parent) (k : Forked) → HasMade start on pending p p' k → (none : Batch) → none ≡ [] → Enters start p p' pending none (command.Change (change.Fork on)) (reply.Fork k.id k.root)
  fork_entered on k h none is =
      let s = state_after_events start h.before in
      let e = making_entry p.number s on pending in
      record {
        before = h.before;
        event = e;
        follows = record {
          sees = h.adds;
          grants = Grants-fork s own on (sound_before start p p' h.before are (Done e) h.adds sound) (legal_entry start p p' h.before are e h.adds);
          floor = record { allowed = λ pins met t is. tt; held = tt };
        };
        owned = refl;
        own = ap (own_of p) is;
        reply = ap₂ (λ v r. reply.Fork v r) (sym (ap fork_in h.answer)) (sym (ap root_in h.answer));
        block = refl;
      }

  -- the batch is what is pending
  pub Enters-fork : (on : Parent) (b : Batch) → b ≡ pending → (k : Forked) → HasMade start on b p p' k → (none : Batch) → none ≡ [] → Enters start p p' pending none (command.Change (change.Fork on)) (reply.Fork k.id k.root)
  Enters-fork on b same k h none is = fork_entered on k (subst (λ x. HasMade start on x p p' k) same h) none is

  pub Fails-fork : (on : Parent) (f : StoreFault) → HasBeenRefused start (make_faults on) p p' f → Fails start p p' pending (command.Change (change.Fork on)) f
  Fails-fork on f refused = inr (Refuses-all start p p' pending (command.Change (change.Fork on)) f (SeesMore-Sees p p' (command.Change (change.Fork on)) refused.0) (ledger_faults at_end ++ making_faults on at_end) (AreTold-make at_end on) refused.1)

  -- ---- drop
  pub Enters-drop : (id n : ℕ) → HasDropped start id p p' n → Enters start p p' pending pending (command.Change (change.Drop id)) (reply.Drop n)
  Enters-drop id n h =
      let s = state_after_events start h.before in
      let e = entry.Dropped p.number id in
      record {
        before = h.before;
        event = e;
        follows = record {
          sees = h.adds;
          grants = Grants-drop s own id (sound_before start p p' h.before are (Done e) h.adds sound) (legal_entry start p p' h.before are e h.adds);
          floor = record { allowed = λ pins met t is. tt; held = tt };
        };
        owned = refl;
        own = refl;
        reply = ap (λ m. reply.Drop m) h.answer;
        block = refl;
      }

  pub Fails-drop : (id : ℕ) (f : StoreFault) → HasBeenRefused start (drop_faults id) p p' f → Fails start p p' pending (command.Change (change.Drop id)) f
  Fails-drop id f refused = inr (Refuses-all start p p' pending (command.Change (change.Drop id)) f (SeesMore-Sees p p' (command.Change (change.Drop id)) refused.0) (ledger_faults at_end ++ fork_faults id at_end) (AreTold-drop at_end id) refused.1)

  -- ---- compact
  pub Enters-compact : (g : ℕ) → HasCompacted start p p' g → Enters start p p' pending pending (command.Change change.Compact) (reply.Compact g)
  Enters-compact g h =
      let s = state_after_events start h.before in
      let e = entry.Compacted p.number (s.generation + 1) in
      record {
        before = h.before;
        event = e;
        follows = record { sees = h.adds; grants = Grants-compact s own (legal_entry start p p' h.before are e h.adds); floor = record { allowed = λ pins met t is. tt; held = tt } };
        owned = refl;
        own = refl;
        reply = ap (λ n. reply.Compact n) h.answer;
        block = refl;
      }

  pub Fails-compact : (f : StoreFault) → HasFailed start attempt.Compacts compact_faults p p' f → Fails start p p' pending (command.Change change.Compact) f
  Fails-compact f (inl failed) =
      let h = failed.1 in
      let s = state_after_events start h.before in
      let e = entry.Compacted p.number (s.generation + 1) in
      inl (
        failed.0,
        record {
          before = h.before;
          attempt = e;
          follows = record { sees = h.adds; grants = Grants-compact s own (legal_attempt start p p' h.before are p.number e h.adds).legal; floor = record { allowed = λ pins met t is. tt; held = tt } };
        },
      )
  Fails-compact f (inr refused) = inr (Refuses-all start p p' pending (command.Change change.Compact) f (SeesMore-Sees p p' (command.Change change.Compact) refused.0) (ledger_faults at_end ++ generation_faults at_end) (AreTold-compact at_end) refused.1)
