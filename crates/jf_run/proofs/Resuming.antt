-- What a call promises that opened the store and was to answer a script over a store with an announced root.
use Rattle.std.specs.Prelude.{IfSome}
use Rattle.std.specs.Option.{ForSome}
use Rattle.std.proofs.Common.{◌≡◌, ◌≤◌, ◌∙◌, inl, inr, ℕ, [], ◌∷◌, List, Option, Some, refl, sym, ap, subst, le_refl}
use Rattle.jf_path.specs.Faults.{HasCause}
use Rattle.jf_model.specs.Versions.{Versions, new_store, root_of}
use Rattle.jf_model.specs.States.{State}
use Rattle.jf_model.specs.declared.entries.Entry.{Entry}
use Rattle.jf_disk.specs.Disk.{Files, History, reads}
use Rattle.jf_disk.specs.Crashes.{LeavesFiles}
use Rattle.jf_files.specs.Files.{StandsFor}
use Rattle.jf_files.specs.Laws.{FilesStandForOne, DamageIsNoVersions}
use Rattle.jf_engine.specs.Framed.{LogRecord}
use Rattle.jf_engine.specs.Files.{HoldsLive}
use Rattle.jf_engine.specs.Openings.{DiskView, HasOpened, KeepsVersions, OnHistories}
use Rattle.jf_history.specs.declared.end.End.{End}
use Rattle.jf_words.specs.declared.modes.Mode.TheVariants as mode
use Rattle.jf_run.specs.Calls.{Devices, ProgramCall, with_disk}
use Rattle.jf_run.specs.ReadOnly.{IsReadOnlyCall}
use Rattle.jf_run.specs.Resuming.{FindsNoStore, HoldsFor, IsResumedOver, IsRootAt}
use Rattle.jf_run.specs.Runs.{IsBegun, IsDatedDisk, HasRun}
use Rattle.jf_run.specs.Statuses.{status_of}
use Rattle.jf_run.specs.Promises.{HasCauses, KeepsPromises}
use Rattle.jf_run.specs.declared.status.Status.TheVariants as status
use Rattle.jf_run.proofs.Closed.{none_is_new}
use Rattle.jf_run.proofs.LinesDone.{run_keeps}
use Rattle.jf_run.proofs.ReadOnly.{read_only_keeps}

-- ---- the files
-- files of a store that doesn't have a root held a record, if files without one aren't initialised for a mode announcing it
held_record : (files : Files) (v : Versions) (version : ℕ) (announced : List ℕ) → FilesStandForOne → StandsFor files v → (IsRootAt v version announced → ⊥) → ((IsRootAt new_store version announced → ⊥) → HoldsLive files [] → ⊥) → HoldsLive files [] → ⊥
held_record files v version announced one stands other unless none =
    unless (λ there. other (subst (λ (w : Versions). IsRootAt w version announced) (one files new_store v (none_is_new files none) stands) there)) none

-- an opening leaves files that held a record as they were
kept_record : (h g : History) (rs : List LogRecord) → HoldsLive (reads h) rs → KeepsVersions h g → (HoldsLive (reads h) [] → ⊥) → LeavesFiles h g
kept_record h g [] held keeps some = absurd (some held)
kept_record h g (x ∷ xs) held keeps some = keeps.recorded x xs held

opening_leaves : (before after : DiskView) (v : Versions) (n : ℕ) → HasOpened before after v n → ForSome before.history (λ h. HoldsLive (reads h) [] → ⊥) → OnHistories before.history after.history LeavesFiles
opening_leaves before after v n o some h told =
    let keeps = o.disk h told in
    let found = (o.found h told).0 in
    (keeps.0, keeps.1, kept_record h keeps.0 found.live found.held keeps.2 (some h told))

-- ---- the call
module _ (c : ProgramCall) (version n head : ℕ) (announced : List ℕ) (s : State) (none_stand : DamageIsNoVersions) (asks : c.asks ≡ Some (mode.Resume version announced n)) (start : c.start ≡ Some head)
    (holds : HoldsFor (mode.Resume version announced n) c.before.disk) where
  -- the store was opened, so its files held a record, or were initialised
  never_absent : (IsRootAt new_store version announced → ⊥) → ForSome c.before.disk.history (λ h. HoldsLive (reads h) [] → FindsNoStore c h)
  never_absent unlike h told none = absurd (holds unlike h told none)

  -- a run over a store that has the announced root
  pub resumed_keeps : IsRootAt s.all version announced → (disk : DiskView) (e : End) (attempt : Option Entry) → IsBegun s c.before.disk disk head → c.status ≡ status_of e
      → HasRun e s disk c.after.disk c.entries attempt c.before.rest c.after.rest c.before.text c.after.text → FilesStandForOne → IsDatedDisk c.before.disk
      → (c.status ≡ status.ReadFault → HasCause c.before.source_faults c.after.source_faults) → (c.status ≡ status.WriteFault → HasCause c.before.sink_faults c.after.sink_faults)
      → c.before.source_faults ≤ c.after.source_faults → c.before.sink_faults ≤ c.after.sink_faults → KeepsPromises c
  resumed_keeps here disk e attempt begun is run one dated read write source sink =
      run_keeps c head s disk e attempt begun is run one none_stand dated start (mode.Resume version announced n) asks refl refl
      (λ r same. record {
        opened = subst (λ (o : Option ℕ). IfSome o (IsResumedOver c version announced)) (sym start) (inl (r, subst (λ (x : State). IsRootAt x.all version announced) (sym same) here));
        absent = never_absent;
      })
      read write source sink

  -- a store that has another root
  pub elsewhere_keeps : FilesStandForOne → (IsRootAt s.all version announced → ⊥) → IsReadOnlyCall c s head → c.status ≡ status.Elsewhere head (root_of s.all head) → c.after ≡ with_disk c.after.disk c.before → KeepsPromises c
  elsewhere_keeps one other only is untouched =
      let some : ForSome c.before.disk.history (λ h. HoldsLive (reads h) [] → ⊥) =
      λ h told. held_record (reads h) s.all version announced one (only.begun.opening.found h told).0 other (λ unlike. holds unlike h told) in
      let causes : HasCauses c = record {
        read = λ e. absurd (let no : status.Elsewhere head (root_of s.all head) ≡ status.ReadFault = sym is ∙ e in cc);
        write = λ e. absurd (let no : status.Elsewhere head (root_of s.all head) ≡ status.WriteFault = sym is ∙ e in cc);
        disk = λ e. absurd (let no : status.Elsewhere head (root_of s.all head) ≡ status.DiskFault = sym is ∙ e in cc);
        calm = λ e. only.begun.opening.faults;
      } in
      let source : c.after.source_faults ≡ c.before.source_faults = ap (λ (d : Devices). d.source_faults) untouched in
      let sink : c.after.sink_faults ≡ c.before.sink_faults = ap (λ (d : Devices). d.sink_faults) untouched in
      read_only_keeps c head s only none_stand (mode.Resume version announced n) asks refl start
      (record {
        usage = λ e. absurd (let no : status.Elsewhere head (root_of s.all head) ≡ status.Usage = sym is ∙ e in cc);
        damage = λ side at e. absurd (let no : status.Elsewhere head (root_of s.all head) ≡ status.Damaged side at = sym is ∙ e in cc);
        causes = causes;
      })
      (record {
        opened = subst (λ (o : Option ℕ). IfSome o (IsResumedOver c version announced)) (sym start)
            (inr (record { state = s; read_only = only; elsewhere = other; status_is = is; untouched = untouched; held = some; unchanged = opening_leaves c.before.disk c.after.disk s.all s.generation only.begun.opening some }));
        absent = never_absent;
      })
      (subst (λ k. c.before.source_faults ≤ k) (sym source) (le_refl c.before.source_faults)) (subst (λ k. c.before.sink_faults ≤ k) (sym sink) (le_refl c.before.sink_faults))
