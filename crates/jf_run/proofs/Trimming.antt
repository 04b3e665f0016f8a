-- What a call promises that opened the store and was to trim its files.
use Rattle.std.specs.Prelude.{IfOk, IfSome, OnOk}
use Rattle.std.proofs.Common.{◌≡◌, ◌⊎◌, ◌∙◌, refl, sym, ap, subst, ℕ, ◌≤◌, [], List, Option, Some, Ok, Err, Result, inl, inr, le_refl}
use Rattle.jf_path.specs.Faults.{HasCause}
use Rattle.jf_model.specs.Versions.{IsVersions, Versions}
use Rattle.jf_model.specs.States.{state_when_opened}
use Rattle.jf_model.specs.Entries.{replay}
use Rattle.jf_model.specs.declared.entries.Entry.{Entry}
use Rattle.jf_model.proofs.StateLaws.{versions-opened}
use Rattle.jf_disk.specs.Disk.{CallsOn, History, reads}
use Rattle.jf_disk.specs.Crashes.{LeavesFiles}
use Rattle.jf_disk.specs.declared.side.Side.{Side}
use Rattle.jf_disk.proofs.CrashLaws.{goes_extends, goes_further}
use Rattle.jf_pair.specs.Files.{outer_damage}
use Rattle.jf_pair.specs.declared.fault.PairFault.{PairFault}
use Rattle.jf_pair.specs.declared.fault.PairFault.TheVariants as pair_fault
use Rattle.jf_files.specs.Files.{StandsFor, generation}
use Rattle.jf_files.specs.Laws.{DamageIsNoVersions, FilesStandForOne}
use Rattle.jf_trim.specs.Laws.{KeptStoresStopWell}
use Rattle.jf_trim.specs.Trims.{HasTrimmed, KeepsStore}
use Rattle.jf_trim.specs.declared.trimmed.Trimmed.{Trimmed}
use Rattle.jf_engine.specs.Engines.{Engine, IsSettledOn}
use Rattle.jf_engine.specs.Faults.{of_pair}
use Rattle.jf_engine.specs.Openings.{OnHistories}
use Rattle.jf_engine.proofs.Opened.{of_pair_fault, of_pair_damage}
use Rattle.jf_words.specs.declared.modes.Mode.TheVariants as mode
use Rattle.jf_run.specs.Statuses.{status_of_refusal}
use Rattle.jf_run.specs.Calls.{ProgramCall, engine_disk}
use Rattle.jf_run.specs.Outcomes.{IsDoneOrMemory, StandsForEntries}
use Rattle.jf_run.specs.Promises.{HasCauses, KeepsPromises}
use Rattle.jf_run.specs.Restoring.{StaysHeld}
use Rattle.jf_run.specs.Runs.{IsBegun}
use Rattle.jf_run.specs.Trimming.{IsTrimmedCall, TellsTrimmed}
use Rattle.jf_run.specs.declared.status.Status.{Status}
use Rattle.jf_run.specs.declared.status.Status.TheVariants as status
use Rattle.jf_run.proofs.Complete.{steady_ends}
use Rattle.jf_run.proofs.Opened.{GoesOnDisk, calm_since, known_keeps, rose}
use Rattle.jf_run.proofs.Statuses.{damage_told, refused_disk, refused_done, refused_read, refused_words, refused_write}

abbrev How : Type 0
How = Result Trimmed PairFault

-- ---- the status
-- all was done, the sink failed or memory ran out; or it didn't trim, for this reason
abbrev EndsSo : How → Status → Type 0
EndsSo how s = (s ≡ status.Done) ⊎ ((s ≡ status.WriteFault) ⊎ ((s ≡ status.Memory) ⊎ ((why : PairFault) × (how ≡ Err why) × (s ≡ status_of_refusal (of_pair why)))))

ends_so : (how : How) (s : Status) (text text' : Option (List ℕ)) → TellsTrimmed how s text text' → EndsSo how s
ends_so (Ok t) status.Done text text' told = inl refl
ends_so (Ok t) status.Usage text text' told = absurd told
ends_so (Ok t) status.ReadFault text text' told = absurd told
ends_so (Ok t) status.WriteFault text text' told = inr (inl refl)
ends_so (Ok t) status.DiskFault text text' told = absurd told
ends_so (Ok t) (status.Damaged side at) text text' told = absurd told
ends_so (Ok t) status.InputFull text text' told = absurd told
ends_so (Ok t) status.Memory text text' told = inr (inr (inl refl))
ends_so (Ok t) (status.Refused why) text text' told = absurd told
ends_so (Ok t) (status.Outside least head) text text' told = absurd told
ends_so (Ok t) (status.Unfollowed why) text text' told = absurd told
ends_so (Ok t) (status.NotShown why) text text' told = absurd told
ends_so (Ok t) (status.Elsewhere head root) text text' told = absurd told
ends_so (Err why) s text text' told = inr (inr (inr (why, refl, told.0)))

no_usage : (how : How) (s : Status) → EndsSo how s → s ≡ status.Usage → ⊥
no_usage how s (inl is) e = absurd (cc)
no_usage how s (inr (inl is)) e = absurd (cc)
no_usage how s (inr (inr (inl is))) e = absurd (cc)
no_usage how s (inr (inr (inr w))) e = refused_words (of_pair w.0) (sym w.2 ∙ e)

-- after a good end all was done
done_calm : (P : Type 0) (how : How) (s : Status) (text text' : Option (List ℕ)) → TellsTrimmed how s text text' → s ≡ status.Done → OnOk how P → P
done_calm P (Ok t) s text text' told e calm = calm
done_calm P (Err why) s text text' told e calm = absurd (refused_done (of_pair why) (sym told.0 ∙ e))

no_read : (how : How) (s : Status) → EndsSo how s → s ≡ status.ReadFault → ⊥
no_read how s (inl is) e = absurd (cc)
no_read how s (inr (inl is)) e = absurd (cc)
no_read how s (inr (inr (inl is))) e = absurd (cc)
no_read how s (inr (inr (inr w))) e = refused_read (of_pair w.0) (sym w.2 ∙ e)

-- what was reported of what was trimmed, and of the faults of the sink
pub record IsTold (how : How) (s : Status) (text text' : Option (List ℕ)) (faults faults' : ℕ) : Type 0 where
  pub told : TellsTrimmed how s text text'
  pub silent : (s ≡ status.Done → ⊥) → (s ≡ status.WriteFault → ⊥) → faults' ≡ faults
  pub write : s ≡ status.WriteFault → HasCause faults faults'
  pub counts : faults ≤ faults'

quiet : (t : Trimmed) (s : Status) (faults faults' : ℕ) → EndsSo (Ok t) s → (s ≡ status.Memory → faults' ≡ faults) → (s ≡ status.Done → ⊥) → (s ≡ status.WriteFault → ⊥) → faults' ≡ faults
quiet t s faults faults' (inl is) memory done write = absurd (done is)
quiet t s faults faults' (inr (inl is)) memory done write = absurd (write is)
quiet t s faults faults' (inr (inr (inl is))) memory done write = memory is
quiet t s faults faults' (inr (inr (inr x))) memory done write = absurd (let no : Ok t ≡ Err x.0 = x.1 in cc)

-- of a disk that was trimmed the line is written, unless memory ran out before
pub line_told : (t : Trimmed) (s : Status) (text text' : Option (List ℕ)) (faults faults' : ℕ) → TellsTrimmed (Ok t) s text text' → (s ≡ status.Memory → faults' ≡ faults) → (s ≡ status.WriteFault → HasCause faults faults') → faults ≤ faults'
    → IsTold (Ok t) s text text' faults faults'
line_told t s text text' faults faults' told silent write counts = record { told = told; silent = quiet t s faults faults' (ends_so (Ok t) s text text' told) silent; write = write; counts = counts }

-- of a disk that wasn't trimmed nothing is written
pub untrimmed_told : (why : PairFault) (text : Option (List ℕ)) (faults : ℕ) → IsTold (Err why) (status_of_refusal (of_pair why)) text text faults faults
untrimmed_told why text faults = record { told = (refl, refl); silent = λ done write. refl; write = λ e. absurd (refused_write (of_pair why) e); counts = le_refl faults }

-- a fault of the disk is reported only if a call on it failed
fault_told : (how : How) (s : Status) → EndsSo how s → s ≡ status.DiskFault → how ≡ Err pair_fault.DiskFault
fault_told how s (inl is) e = absurd (cc)
fault_told how s (inr (inl is)) e = absurd (cc)
fault_told how s (inr (inr (inl is))) e = absurd (cc)
fault_told how s (inr (inr (inr w))) e = w.1 ∙ ap (λ x. Err x) (of_pair_fault w.0 (refused_disk (of_pair w.0) (sym w.2 ∙ e)))

-- damage is reported only where it was found
found_damage : (how : How) (s : Status) → EndsSo how s → (side : Side) (at : ℕ) → s ≡ status.Damaged side at → how ≡ Err (pair_fault.Damaged side at)
found_damage how s (inl is) side at e = absurd (cc)
found_damage how s (inr (inl is)) side at e = absurd (cc)
found_damage how s (inr (inr (inl is))) side at e = absurd (cc)
found_damage how s (inr (inr (inr w))) side at e = w.1 ∙ ap (λ x. Err x) (of_pair_damage w.0 side at (damage_told (of_pair w.0) side at (sym w.2 ∙ e)))

-- without a fault of a device, and without damage, all was done or memory ran out
ended_well : (how : How) (s : Status) → EndsSo how s → (s ≡ status.WriteFault → ⊥) → (s ≡ status.DiskFault → ⊥) → ((side : Side) (at : ℕ) → s ≡ status.Damaged side at → ⊥) → IsDoneOrMemory s
ended_well how s (inl is) w d n = inl is
ended_well how s (inr (inl is)) w d n = absurd (w is)
ended_well how s (inr (inr (inl is))) w d n = inr is
ended_well how s (inr (inr (inr (pair_fault.DiskFault, e, is)))) w d n = absurd (d is)
ended_well how s (inr (inr (inr (pair_fault.Damaged side at, e, is)))) w d n = absurd (n side at is)
ended_well how s (inr (inr (inr (pair_fault.Memory, e, is)))) w d n = inr is

-- ---- the files
-- files that represent what others represented, in their generation, represent the result of no entries for it
stands-same : (h g : History) (v : Versions) (history : Option History) → IsVersions v → history ≡ Some g → StandsFor (reads g) v → generation (reads g) ≡ generation (reads h) → StandsForEntries history v (generation (reads h)) []
unfolding replay
stands-same h g v history sound told stands same = record {
  now = g;
  told = told;
  stands = subst (λ w. StandsFor (reads g) w) (sym (versions-opened v (generation (reads h)) sound)) stands;
  generation_is = same;
}

trims : (how : How) (old new : Option History) → OnHistories old new KeepsStore → ((h : History) → old ≡ Some h → IfOk how (λ t. (g : History) × (new ≡ Some g) × HasTrimmed t h g)) → OnHistories old new (λ h g. IfOk how (λ t. HasTrimmed t h g))
trims (Ok t) old new keeps trimmed = trimmed
trims (Err why) old new keeps trimmed = λ h told. let k = keeps h told in (k.0, k.1, tt)

-- a disk that wasn't trimmed, and didn't fail, is as it was
left_alone : (how : How) (old new : Option History) → ((h : History) (why : PairFault) → old ≡ Some h → how ≡ Err why → (why ≡ pair_fault.DiskFault) ⊎ ((g : History) × (new ≡ Some g) × LeavesFiles h g))
    → (why : PairFault) → how ≡ Err why → (why ≡ pair_fault.DiskFault) ⊎ OnHistories old new LeavesFiles
left_alone how old new left pair_fault.DiskFault is = inl refl
left_alone how old new left (pair_fault.Damaged side at) is = inr (λ h told. elim (left h (pair_fault.Damaged side at) told is) [ inl other ↦ absurd (cc) | inr same ↦ same ])
left_alone how old new left pair_fault.Memory is = inr (λ h told. elim (left h pair_fault.Memory told is) [ inl other ↦ absurd (cc) | inr same ↦ same ])

-- if no call failed in the opening, nor in the trimming, none failed
stayed_calm : (how : How) (before opened after : ℕ) → opened ≡ before → OnOk how (after ≡ opened) → IfOk how (λ t. after ≡ before)
stayed_calm (Ok t) before opened after opening calm = calm ∙ opening
stayed_calm (Err why) before opened after opening calm = tt

-- a store was opened, and then kept
module _ (c : ProgramCall) (head : ℕ) (e : Engine) (begun : IsBegun (state_when_opened e.versions e.generation) c.before.disk (engine_disk e) head) (settled : (h : History) → e.history ≡ Some h → IsSettledOn h e.versions e.generation)
    (law : KeptStoresStopWell) (keeps : OnHistories e.history c.after.disk.history KeepsStore) where
  held : StaysHeld c.before.disk.history c.after.disk.history e.versions e.generation
  held = record {
    settled = λ h told.
        let opening = begun.opening.disk h told in
        let was = settled opening.0 opening.1 in
        let k = keeps opening.0 opening.1 in
        (k.0, k.1, record { stands = k.2.stands e.versions was.stands; leaves = (law opening.0 k.0 e.versions k.2 was.stands was.leaves).1; generation_is = k.2.generation_is ∙ was.generation_is });
    stops = λ h told.
        let opening = begun.opening.disk h told in
        let was = settled opening.0 opening.1 in
        let k = keeps opening.0 opening.1 in
        (k.0, k.1, λ calm. goes_further h opening.0 k.0 _ (opening.2.stops e.versions calm (begun.opening.found h told).0) (law opening.0 k.0 e.versions k.2 was.stands was.leaves).0);
  }

  goes : e.moment ≤ c.after.disk.moment → e.faults ≤ c.after.disk.faults → GoesOnDisk (engine_disk e) c.after.disk []
  goes later counted = record {
    extends = λ h told. let k = keeps h told in (k.0, k.1, goes_extends h k.0 _ (k.2.images e.versions (settled h told).stands));
    landings = later;
    faults = counted;
  }

-- ---- the call
pub trimmed_keeps : (c : ProgramCall) (head : ℕ) (e : Engine) (how : How) → DamageIsNoVersions → FilesStandForOne → KeptStoresStopWell → IsVersions e.versions
    → IsBegun (state_when_opened e.versions e.generation) c.before.disk (engine_disk e) head → ((h : History) → e.history ≡ Some h → IsSettledOn h e.versions e.generation)
    → c.asks ≡ Some mode.Trim → c.start ≡ Some head → c.entries ≡ [] → TellsTrimmed how c.status c.before.text c.after.text
    → OnHistories e.history c.after.disk.history KeepsStore → ((h : History) → e.history ≡ Some h → IfOk how (λ t. (g : History) × (c.after.disk.history ≡ Some g) × HasTrimmed t h g))
    → ((h : History) (side : Side) (at : ℕ) → e.history ≡ Some h → how ≡ Err (pair_fault.Damaged side at) → outer_damage (reads h) ≡ Some (side, at))
    → ((h : History) (why : PairFault) → e.history ≡ Some h → how ≡ Err why → (why ≡ pair_fault.DiskFault) ⊎ ((g : History) × (c.after.disk.history ≡ Some g) × LeavesFiles h g)) → OnOk how (c.after.disk.faults ≡ e.faults)
    → CallsOn e.history e.moment e.faults c.after.disk.history c.after.disk.moment c.after.disk.faults (how ≡ Err pair_fault.DiskFault)
    → c.after.rest ≡ c.before.rest → c.after.source_faults ≡ c.before.source_faults → ((c.status ≡ status.Done → ⊥) → (c.status ≡ status.WriteFault → ⊥) → c.after.sink_faults ≡ c.before.sink_faults) → (c.status ≡ status.WriteFault → HasCause c.before.sink_faults c.after.sink_faults) → c.before.sink_faults ≤ c.after.sink_faults → KeepsPromises c
trimmed_keeps c head e how none_stand one law sound begun settled asks start none told keeps trimmed damaged left calm calls rest faults silent write sink =
    let s = state_when_opened e.versions e.generation in
    let disk = engine_disk e in
    let so : EndsSo how c.status = ends_so how c.status c.before.text c.after.text told in
    let goes_on : GoesOnDisk disk c.after.disk c.entries = subst (λ (es : List Entry). GoesOnDisk disk c.after.disk es) (sym none) (goes c head e begun settled law keeps calls.later calls.counted) in
    let causes : HasCauses c = record {
      read = λ r. absurd (no_read how c.status so r);
      write = write;
      disk = λ d. rose c head s disk begun goes_on (calls.cause (fault_told how c.status so d));
      calm = λ d. calm_since c head s disk begun goes_on (done_calm _ how c.status c.before.text c.after.text told d calm);
    } in
    let no_damage : (h : History) → c.before.disk.history ≡ Some h → (side : Side) (at : ℕ) → c.status ≡ status.Damaged side at → ⊥ = λ h known side at d.
    let opening = begun.opening.disk h known in
    none_stand (reads opening.0) e.versions side at (settled opening.0 opening.1).stands (inl (damaged opening.0 side at opening.1 (found_damage how c.status so side at d))) in
    known_keeps c head s disk begun goes_on none_stand mode.Trim asks refl (λ other. none) start (record { usage = no_usage how c.status so; damage = no_damage; causes = causes })
    (subst (λ (o : Option ℕ). IfSome o (IsTrimmedCall c)) (sym start) (record {
      state = s;
      opened = disk;
      begun = begun;
      how = how;
      told = told;
      trimmed = trims how e.history c.after.disk.history keeps trimmed;
      files = held c head e begun settled law keeps;
      stands = λ h known v stands.
          let opening = begun.opening.disk h known in
          let found = begun.opening.found h known in
          let was = settled opening.0 opening.1 in
          let k = keeps opening.0 opening.1 in
          let same : e.versions ≡ v = one (reads h) e.versions v found.0 stands in
          subst (λ (es : List Entry). StandsForEntries c.after.disk.history v (generation (reads h)) es) (sym none)
          (stands-same h k.0 v c.after.disk.history (subst IsVersions same sound) k.1 (subst (λ w. StandsFor (reads k.0) w) same (k.2.stands e.versions was.stands)) (k.2.generation_is ∙ was.generation_is ∙ sym found.1));
      live = λ h is. let k = keeps h is in (k.0, k.1, k.2.live);
      images = λ h is. let k = keeps h is in (k.0, k.1, k.2.images e.versions (settled h is).stands);
      unchanged = left_alone how e.history c.after.disk.history left;
      calm = stayed_calm how c.before.disk.faults e.faults c.after.disk.faults begun.opening.faults calm;
      entries = none;
      unread = (rest, faults);
      silent = silent;
      complete = λ h known v stands ss ks ds.
          steady_ends c (((side : Side) (at : ℕ) → c.status ≡ status.Damaged side at → ⊥) → IsDoneOrMemory c.status) causes (λ r w d n. ended_well how c.status so w d n) h known v stands ss ks ds (no_damage h known);
    }))
    (subst (λ k. c.before.source_faults ≤ k) (sym faults) (le_refl c.before.source_faults)) sink
