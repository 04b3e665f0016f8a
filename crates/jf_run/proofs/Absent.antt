-- What a call promises that was to resume a store, and found none.
use Rattle.std.specs.Prelude.{IfNone, IfSome}
use Rattle.std.specs.FinMap as fin
use Rattle.std.proofs.Common.{◌≡◌, ◌⊎◌, ◌≤◌, ◌∙◌, ℕ, [], List, Option, None, Some, inl, inr, sym, ap, subst, arith, le_refl, true≢false}
use Rattle.jf_hash.specs.Hashes.{E}
use Rattle.jf_hash.specs.Roots.{root}
use Rattle.jf_hash.proofs.RootLaws.{root-empty}
use Rattle.jf_model.specs.Versions.{new_store, root_of}
use Rattle.jf_model.specs.Entries.{moments_of}
use Rattle.jf_disk.specs.Disk.{IsImage, reads}
use Rattle.jf_disk.proofs.CrashLaws.{goes_extends, goes_weaker}
use Rattle.jf_files.specs.Files.{StandsFor, generation}
use Rattle.jf_files.specs.Laws.{DamageIsNoVersions, FilesStandForSound}
use Rattle.jf_engine.specs.Openings.{HasFoundNoStore}
use Rattle.jf_store.specs.Images.{AreWithin}
use Rattle.jf_words.specs.declared.modes.Mode.{Mode}
use Rattle.jf_words.specs.declared.modes.Mode.TheVariants as mode
use Rattle.jf_run.specs.Calls.{Devices, ProgramCall, with_disk}
use Rattle.jf_run.specs.Closed.{IsClosedCall}
use Rattle.jf_run.specs.Outcomes.{StandsForEntries}
use Rattle.jf_run.specs.Promises.{KeepsPromises, Owes}
use Rattle.jf_run.specs.Resuming.{IsAbsentCall, IsRootAt, MayBegin}
use Rattle.jf_run.specs.declared.status.Status.TheVariants as status
use Rattle.jf_run.proofs.Closed.{none_is_new, unopened}
use Rattle.jf_run.proofs.Standing.{stands-left}

-- ---- the root of a new store
-- it has one version, 0, whose root is that of no entry
pub new_root : (version : ℕ) (announced : List ℕ) → IsRootAt new_store version announced → (version ≡ 0) × (announced ≡ E)
new_root version announced there =
    let zero : version ≡ 0 = omega (arith, there.1) in
    (zero, sym (subst (λ n. root_of new_store n ≡ announced) zero there.2) ∙ root-empty)

pub at_new_root : (version : ℕ) (announced : List ℕ) → version ≡ 0 → announced ≡ E → IsRootAt new_store version announced
at_new_root version announced zero is = (omega arith, omega (arith, zero), subst (λ n. root_of new_store n ≡ announced) (sym zero) (root-empty ∙ sym is))

-- ---- the call
module _ (c : ProgramCall) (version n : ℕ) (announced : List ℕ) (all_sound : FilesStandForSound) (none_stand : DamageIsNoVersions) (start : c.start ≡ None) (none : c.entries ≡ []) (asks : c.asks ≡ Some (mode.Resume version announced n))
    (unlike : IsRootAt new_store version announced → ⊥) (is : c.status ≡ status.Elsewhere 0 (root fin.empty)) (found : HasFoundNoStore c.before.disk c.after.disk) (untouched : c.after ≡ with_disk c.after.disk c.before) where
  absent : IsAbsentCall c
  absent = record {
    version = version;
    announced = announced;
    workers = n;
    asks = asks;
    elsewhere = unlike;
    status_is = is;
    untouched = untouched;
    unchanged = found.disk;
    calm = found.faults;
  }

  closed : IsClosedCall c
  closed = record {
    ending = λ idle. inr absent;
    entries = none;
    left = λ h told. let d = found.disk h told in (d.0, d.1, inl d.2.1);
    stands = λ h told. let d = found.disk h told in (d.0, d.1, λ v stands. subst (λ f. StandsFor f v) (sym d.2.1.same) stands);
    stops = λ h told.
        let d = found.disk h told in
        (d.0, d.1, λ v calm stands. goes_weaker h d.0 (λ f. IsImage h.now f) (λ f. StandsFor f v ⊎ StandsFor f v) (λ f image. inl (calm.leaves v stands f image)) d.2.1.images);
    unchanged = λ sound h told v stands.
        let d = found.disk h told in
        subst (λ es. StandsForEntries c.after.disk.history v (generation (reads h)) es) (sym none) (stands-left h d.0 v c.after.disk.history all_sound d.1 d.2.1.same stands);
    complete = λ opens h told v stands ss ks ds. inr absent;
  }

  pub resume_absent_keeps : KeepsPromises c
  resume_absent_keeps =
      let source : c.after.source_faults ≡ c.before.source_faults = ap (λ (d : Devices). d.source_faults) untouched in
      let sink : c.after.sink_faults ≡ c.before.sink_faults = ap (λ (d : Devices). d.sink_faults) untouched in
      record {
        words = record {
          usage = λ e. absurd (let no : status.Elsewhere 0 (root fin.empty) ≡ status.Usage = sym is ∙ e in cc);
          usage_only = λ e. absurd (let no : Some (mode.Resume version announced n) ≡ None = sym asks ∙ e in cc);
          start = λ e. start;
          entries = λ other. none;
        };
        causes = record {
          read = λ e. absurd (let no : status.Elsewhere 0 (root fin.empty) ≡ status.ReadFault = sym is ∙ e in cc);
          write = λ e. absurd (let no : status.Elsewhere 0 (root fin.empty) ≡ status.WriteFault = sym is ∙ e in cc);
          disk = λ e. absurd (let no : status.Elsewhere 0 (root fin.empty) ≡ status.DiskFault = sym is ∙ e in cc);
          calm = λ e. found.faults;
        };
        damage = record {
          damaged = λ h told side at e. absurd (let no : status.Elsewhere 0 (root fin.empty) ≡ status.Damaged side at = sym is ∙ e in cc);
          damage_named = λ h told side at words here. absurd (none_stand (reads h) new_store side at (none_is_new (reads h) (found.disk h told).2.0) here);
        };
        forward = record {
          extends = λ h told. let d = found.disk h told in (d.0, d.1, goes_extends h d.0 (λ f. IsImage h.now f) d.2.1.images);
          dated = subst (λ es. AreWithin c.before.disk.moment c.after.disk.moment (moments_of es)) (sym none) found.moment;
          moment = found.moment;
          disk_faults = subst (λ k. c.before.disk.faults ≤ k) (sym found.faults) (le_refl c.before.disk.faults);
          source_faults = subst (λ k. c.before.source_faults ≤ k) (sym source) (le_refl c.before.source_faults);
          sink_faults = subst (λ k. c.before.sink_faults ≤ k) (sym sink) (le_refl c.before.sink_faults);
        };
        closed = subst (λ o. IfNone o (IsClosedCall c)) (sym start) closed;
        owed = subst (λ (o : Option Mode). IfSome o (λ m. Owes m c)) (sym asks) (unopened c (mode.Resume version announced n) start (λ shut. absurd (true≢false shut))
            (λ other h told empty. let d = found.disk h told in record { start = start; left = (d.0, d.1, d.2.1); ended = inl absent }));
      }

-- a mode for which files without a record may not be initialised found no store
pub absent_keeps : (c : ProgramCall) (m : Mode) → FilesStandForSound → DamageIsNoVersions → c.start ≡ None → c.entries ≡ [] → c.asks ≡ Some m → (MayBegin m → ⊥) → c.status ≡ status.Elsewhere 0 (root fin.empty)
    → HasFoundNoStore c.before.disk c.after.disk → c.after ≡ with_disk c.after.disk c.before → KeepsPromises c
absent_keeps c (mode.Resume version announced n) all_sound none_stand start none asks unlike is found untouched = resume_absent_keeps c version n announced all_sound none_stand start none asks unlike is found untouched
absent_keeps c (mode.Run n) all_sound none_stand start none asks unlike is found untouched = absurd (unlike tt)
absent_keeps c (mode.Serve n) all_sound none_stand start none asks unlike is found untouched = absurd (unlike tt)
absent_keeps c (mode.Lead n) all_sound none_stand start none asks unlike is found untouched = absurd (unlike tt)
absent_keeps c (mode.Follow n) all_sound none_stand start none asks unlike is found untouched = absurd (unlike tt)
absent_keeps c mode.Verify all_sound none_stand start none asks unlike is found untouched = absurd (unlike tt)
absent_keeps c (mode.Generate seed batches size n) all_sound none_stand start none asks unlike is found untouched = absurd (unlike tt)
absent_keeps c (mode.Restore version announced n) all_sound none_stand start none asks unlike is found untouched = absurd (unlike tt)
absent_keeps c mode.Trim all_sound none_stand start none asks unlike is found untouched = absurd (unlike tt)
absent_keeps c mode.Check all_sound none_stand start none asks unlike is found untouched = absurd (unlike tt)
absent_keeps c (mode.History version) all_sound none_stand start none asks unlike is found untouched = absurd (unlike tt)
absent_keeps c (mode.Many version) all_sound none_stand start none asks unlike is found untouched = absurd (unlike tt)
absent_keeps c (mode.Judge announced name) all_sound none_stand start none asks unlike is found untouched = absurd (unlike tt)
