-- What is promised of a call in the mode `check`.
use Rattle.std.specs.Prelude.{IfNone, IfOk, IfSome, IsTrue}
use Rattle.std.proofs.Common.{◌≡◌, ◌⊎◌, ◌∙◌, ◌≤◌, ◌+◌, inl, [], Option, Some, None, Err, sym, ap, subst, le_refl, true≢false}
use Rattle.jf_path.specs.Faults.{HasCause}
use Rattle.jf_model.specs.Entries.{moments_of}
use Rattle.jf_disk.specs.Disk.{CallsOn, History, IsImage, reads}
use Rattle.jf_disk.specs.Crashes.{Idles, LeavesFiles}
use Rattle.jf_disk.proofs.CrashLaws.{goes_extends, goes_weaker, leaves_idle}
use Rattle.jf_files.specs.Files.{StandsFor, generation}
use Rattle.jf_files.specs.Laws.{FilesStandForSound}
use Rattle.jf_store.specs.Images.{AreWithin}
use Rattle.jf_check.specs.Stores.{IsStoreCheck}
use Rattle.jf_check.specs.Written.{ChecksDisk}
use Rattle.jf_check.specs.declared.fault.Unchecked.TheVariants as unchecked
use Rattle.jf_words.specs.Shapes.{IsIdleWithoutStore, asked_shape}
use Rattle.jf_words.specs.declared.modes.Mode.{Mode}
use Rattle.jf_words.specs.declared.modes.Mode.TheVariants as mode
use Rattle.jf_run.specs.Calls.{ProgramCall}
use Rattle.jf_run.specs.Closed.{IsClosedCall}
use Rattle.jf_run.specs.Outcomes.{StandsForEntries}
use Rattle.jf_run.specs.Promises.{KeepsPromises, Owes}
use Rattle.jf_run.specs.Statuses.{status_of_check}
use Rattle.jf_run.specs.declared.status.Status.{Status}
use Rattle.jf_run.specs.declared.status.Status.TheVariants as status
use Rattle.jf_run.proofs.CheckedCalls.{How, told_damage, told_disk, told_read, told_silence, told_usage, told_well, told_write}
use Rattle.jf_run.proofs.Complete.{steady}
use Rattle.jf_run.proofs.Standing.{stands-left}

module _ (c : ProgramCall) (r : How) (all_sound : FilesStandForSound) (start : c.start ≡ None) (none : c.entries ≡ []) (asks : c.asks ≡ Some mode.Check) (is : c.status ≡ status_of_check r)
    (told : ChecksDisk r c.missing c.before.disk.history c.before.text c.after.text) (store : (h : History) → c.before.disk.history ≡ Some h → IfOk r (IsStoreCheck (reads h)))
    (idle : (h : History) → c.before.disk.history ≡ Some h → (g : History) × (c.after.disk.history ≡ Some g) × Idles h g)
    (calls : CallsOn c.before.disk.history c.before.disk.moment c.before.disk.faults c.after.disk.history c.after.disk.moment c.after.disk.faults (r ≡ Err unchecked.DiskFault))
    (calm : (r ≡ Err unchecked.DiskFault → ⊥) → c.after.disk.faults ≡ c.before.disk.faults) (moments : c.after.disk.moment ≤ c.before.disk.moment + 4)
    (rest : c.after.rest ≡ c.before.rest) (faults : c.after.source_faults ≡ c.before.source_faults)
    (write : r ≡ Err unchecked.WriteFault → HasCause c.before.sink_faults c.after.sink_faults)
    (silent : (r ≡ Err unchecked.DiskFault) ⊎ (r ≡ Err unchecked.Memory) → (c.after.text ≡ c.before.text) × (c.after.sink_faults ≡ c.before.sink_faults)) (sink : c.before.sink_faults ≤ c.after.sink_faults) where
  shut : IsTrue (asked_shape c.asks).opens → ⊥
  shut words = true≢false (sym words ∙ ap (λ (o : Option Mode). (asked_shape o).opens) asks)

  no_fault : (s : Status) → (s ≡ status.DiskFault → ⊥) → c.status ≡ s → r ≡ Err unchecked.DiskFault → ⊥
  no_fault s other ends fault = other (sym ends ∙ is ∙ ap status_of_check fault)

  left : (h : History) → c.before.disk.history ≡ Some h → (g : History) × (c.after.disk.history ≡ Some g) × LeavesFiles h g
  left h known = let d = idle h known in (d.0, d.1, leaves_idle h d.0 d.2)

  closed : IsClosedCall c
  closed = record {
    ending = λ waits. absurd (true≢false (sym (subst IsIdleWithoutStore asks waits)));
    entries = none;
    left = λ h known. let d = left h known in (d.0, d.1, inl d.2);
    stands = λ h known. let d = left h known in (d.0, d.1, λ v stands. subst (λ f. StandsFor f v) (sym d.2.same) stands);
    stops = λ h known.
        let d = left h known in
        (d.0, d.1, λ v quiet stands. goes_weaker h d.0 (λ f. IsImage h.now f) (λ f. StandsFor f v ⊎ StandsFor f v) (λ f image. inl (quiet.leaves v stands f image)) d.2.images);
    unchanged = λ sound h known v stands.
        let d = left h known in
        subst (λ es. StandsForEntries c.after.disk.history v (generation (reads h)) es) (sym none) (stands-left h d.0 v c.after.disk.history all_sound d.1 d.2.same stands);
    complete = λ opens. absurd (shut opens);
  }

  pub checked_keeps : KeepsPromises c
  checked_keeps = record {
    words = record {
      usage = λ e. absurd (told_usage r (sym is ∙ e));
      usage_only = λ e. absurd (let no : Some mode.Check ≡ None = sym asks ∙ e in cc);
      start = λ e. start;
      entries = λ other. none;
    };
    causes = record {
      read = λ e. absurd (told_read r (sym is ∙ e));
      write = λ e. write (told_write r (sym is ∙ e));
      disk = λ e. calls.cause (told_disk r (sym is ∙ e));
      calm = λ e. calm (no_fault status.Done (λ other. absurd (cc)) e);
    };
    damage = record {
      damaged = λ h known side at e. subst (λ (x : How). IfOk x (IsStoreCheck (reads h))) (told_damage r side at (sym is ∙ e)) (store h known);
      damage_named = λ h known side at words here. absurd (shut words);
    };
    forward = record {
      extends = λ h known. let d = left h known in (d.0, d.1, goes_extends h d.0 (λ f. IsImage h.now f) d.2.images);
      dated = subst (λ es. AreWithin c.before.disk.moment c.after.disk.moment (moments_of es)) (sym none) calls.later;
      moment = calls.later;
      disk_faults = calls.counted;
      source_faults = subst (λ k. c.before.source_faults ≤ k) (sym faults) (le_refl c.before.source_faults);
      sink_faults = sink;
    };
    closed = subst (λ o. IfNone o (IsClosedCall c)) (sym start) closed;
    owed = subst (λ (o : Option Mode). IfSome o (λ m. Owes m c)) (sym asks) (record {
      start = start;
      entries = none;
      outcome = r;
      status_is = is;
      told = told;
      idle = idle;
      moments = moments;
      calm = λ other. calm (λ fault. other (is ∙ ap status_of_check fault));
      unread = (rest, faults);
      silent = λ ends. silent (told_silence r (subst (λ (s : Status). (s ≡ status.DiskFault) ⊎ (s ≡ status.Memory)) is ends));
      complete = λ ks ds. told_well r c.status is (λ e. steady c.before.sink_faults c.after.sink_faults ks.0 ks.1 (write (told_write r (sym is ∙ e)))) (λ e. steady c.before.disk.faults c.after.disk.faults ds.0 ds.1 (calls.cause (told_disk r (sym is ∙ e))));
    });
  }
