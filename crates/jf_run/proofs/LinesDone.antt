-- What a call promises that opened the store and did lines over it by one session.
use Rattle.std.specs.Prelude.{IfSome}
use Rattle.std.proofs.Common.{◌≡◌, sym, ◌∙◌, refl, ℕ, Bool, false, Option, Some, None, List, subst, ◌≤◌, le_refl, IsTrue}
use Rattle.jf_path.specs.Faults.{HasCause}
use Rattle.jf_model.specs.States.{State}
use Rattle.jf_model.specs.declared.entries.Entry.{Entry}
use Rattle.jf_files.specs.Laws.{FilesStandForOne, DamageIsNoVersions}
use Rattle.jf_engine.specs.Openings.{DiskView}
use Rattle.jf_answers.specs.Runs.{answers}
use Rattle.jf_history.specs.Alone.{TriesAlone}
use Rattle.jf_history.specs.declared.end.End.{End}
use Rattle.jf_generate.specs.Scripts.{lines_of_script}
use Rattle.jf_words.specs.Shapes.{ByEntries, shape_of}
use Rattle.jf_words.specs.declared.modes.Mode.{Mode}
use Rattle.jf_words.specs.declared.modes.Mode.TheVariants as mode
use Rattle.jf_run.specs.Calls.{ProgramCall}
use Rattle.jf_run.specs.Generating.{IsGeneratedCall}
use Rattle.jf_run.specs.Leading.{EndsLed, IsLedCall}
use Rattle.jf_run.specs.LinesCalls.{IsLinesCall}
use Rattle.jf_run.specs.Outcomes.{IsDoneOrMemory}
use Rattle.jf_run.specs.Promises.{HasCauses, KeepsPromises, Owes}
use Rattle.jf_run.specs.Running.{IsRunCall}
use Rattle.jf_run.specs.Runs.{IsDatedDisk, IsBegun, HasLasted, HasRun, HasLed, HasGenerated}
use Rattle.jf_run.specs.Statuses.{status_of, status_of_led}
use Rattle.jf_run.specs.declared.status.Status.TheVariants as status
use Rattle.jf_run.proofs.Complete.{ends_well, steady_ends}
use Rattle.jf_run.proofs.Opened.{TellsEnd, calm_since, kept_goes, opened_called, opened_keeps, opened_stands, rose}
use Rattle.jf_run.proofs.Statuses.{attempt_none, fault_caused, no_damage, no_fault, no_usage, status_of_led-whole}

module _ (c : ProgramCall) (head : ℕ) (s : State) (disk : DiskView) (e : End) (is_cut : Bool) (attempt : Option Entry) (done : List (List ℕ)) (next : Option (List ℕ)) (begun : IsBegun s c.before.disk disk head) (is : c.status ≡ status_of_led e is_cut)
    (lasted : HasLasted s disk c.after.disk c.entries attempt done) (tries : TriesAlone e (answers s done) next attempt)
    (read : c.status ≡ status.ReadFault → HasCause c.before.source_faults c.after.source_faults) (write : c.status ≡ status.WriteFault → HasCause c.before.sink_faults c.after.sink_faults) where
  lines_cause : HasCauses c
  lines_cause = record {
    read = read;
    write = write;
    disk = λ d. rose c head s disk begun (kept_goes s disk c.after.disk c.entries attempt lasted.kept) (fault_caused e is_cut (answers s done) next attempt disk.faults c.after.disk.faults tries lasted.kept.cause (sym is ∙ d));
    calm = λ d. calm_since c head s disk begun (kept_goes s disk c.after.disk c.entries attempt lasted.kept)
        (lasted.kept.calm (attempt_none e is_cut (answers s done) next attempt tries (λ f. let no : status.Done ≡ status.DiskFault = sym d ∙ is ∙ f in cc)));
  }

  -- what the status tells of lines that were done
  pub lines_tell : TellsEnd c
  lines_tell = record { usage = λ u. no_usage e is_cut (sym is ∙ u); damage = λ side at d. no_damage e is_cut side at (sym is ∙ d); causes = lines_cause }

  pub lines_call : IsDatedDisk c.before.disk → FilesStandForOne → IsLinesCall c head s attempt done
  lines_call dated one = record {
    disk = disk;
    begun = begun;
    lasted = lasted;
    called = opened_called c head s disk attempt begun lasted.kept dated;
    stands = λ sound. opened_stands c head s disk attempt begun lasted.kept one (attempt_none e is_cut (answers s done) next attempt tries (λ d. no_fault c.status sound (is ∙ d)));
    complete = steady_ends c (IsDoneOrMemory c.status) lines_cause (λ r w d. subst IsDoneOrMemory (sym is) (ends_well e is_cut (λ x. r (is ∙ x)) (λ x. w (is ∙ x)) (λ x. d (is ∙ x))));
  }

-- a run of the script of an input, in a mode that owes one from this state
pub run_keeps : (c : ProgramCall) (head : ℕ) (s : State) (disk : DiskView) (e : End) (attempt : Option Entry) → IsBegun s c.before.disk disk head → c.status ≡ status_of e
    → HasRun e s disk c.after.disk c.entries attempt c.before.rest c.after.rest c.before.text c.after.text → FilesStandForOne → DamageIsNoVersions → IsDatedDisk c.before.disk → c.start ≡ Some head
    → (m : Mode) → c.asks ≡ Some m → IsTrue (shape_of m).opens → (shape_of m).changes ≡ ByEntries → ((r : IsRunCall c head) → r.state ≡ s → Owes m c)
    → (c.status ≡ status.ReadFault → HasCause c.before.source_faults c.after.source_faults) → (c.status ≡ status.WriteFault → HasCause c.before.sink_faults c.after.sink_faults)
    → c.before.source_faults ≤ c.after.source_faults → c.before.sink_faults ≤ c.after.sink_faults → KeepsPromises c
run_keeps c head s disk e attempt begun is run one none_stand dated start m asks opens changes owed read write source sink =
    let whole : c.status ≡ status_of_led e false = is ∙ sym (status_of_led-whole e) in
    opened_keeps c head s disk begun (kept_goes s disk c.after.disk c.entries attempt run.lasted.kept) none_stand m asks opens (λ other. absurd (other changes)) start
    (lines_tell c head s disk e false attempt run.ran.done run.ran.next begun whole run.lasted run.ran.tried read write)
    (owed
    (record {
      state = s;
      end = e;
      attempt = attempt;
      status_is = is;
      ran = run.ran;
      lines = lines_call c head s disk e false attempt run.ran.done run.ran.next begun whole run.lasted run.ran.tried read write dated one;
    })
    refl)
    source sink

-- a script of an input that was led
pub led_keeps : (c : ProgramCall) (head n : ℕ) (s : State) (disk : DiskView) (e : End) (is_cut : Bool) (attempt : Option Entry) → IsBegun s c.before.disk disk head → EndsLed c.status e is_cut c.before.sink_faults c.after.sink_faults
    → HasLed e is_cut s disk c.after.disk c.entries attempt c.before.rest c.after.rest c.before.text c.after.text → FilesStandForOne → DamageIsNoVersions → IsDatedDisk c.before.disk → c.asks ≡ Some (mode.Lead n) → c.start ≡ Some head
    → (c.status ≡ status.ReadFault → HasCause c.before.source_faults c.after.source_faults) → (c.status ≡ status.WriteFault → HasCause c.before.sink_faults c.after.sink_faults)
    → c.before.source_faults ≤ c.after.source_faults → c.before.sink_faults ≤ c.after.sink_faults → KeepsPromises c
led_keeps c head n s disk e is_cut attempt begun ended led one none_stand dated asks start read write source sink =
    let run : HasRun e s disk c.after.disk c.entries attempt c.before.rest c.after.rest None None = led.run in
    opened_keeps c head s disk begun (kept_goes s disk c.after.disk c.entries attempt run.lasted.kept) none_stand (mode.Lead n) asks refl (λ other. absurd (other refl)) start
    (lines_tell c head s disk e is_cut attempt run.ran.done run.ran.next begun ended.status_is run.lasted run.ran.tried read write)
    (subst (λ (o : Option ℕ). IfSome o (IsLedCall c)) (sym start) (record {
      state = s;
      end = e;
      is_cut = is_cut;
      attempt = attempt;
      ran = run.ran;
      lines = lines_call c head s disk e is_cut attempt run.ran.done run.ran.next begun ended.status_is run.lasted run.ran.tried read write dated one;
      ended = ended;
      blocks_sound = led.blocks_sound;
      written = led.written;
    })) source sink

-- a run of a generated script, which reads no input
pub generated_keeps : (c : ProgramCall) (head seed batches size n : ℕ) (s : State) (disk : DiskView) (e : End) (attempt : Option Entry) → IsBegun s c.before.disk disk head → c.status ≡ status_of e
    → HasGenerated e s disk c.after.disk (lines_of_script seed batches size) c.entries attempt c.before.text c.after.text → FilesStandForOne → DamageIsNoVersions → IsDatedDisk c.before.disk → c.asks ≡ Some (mode.Generate seed batches size n)
    → c.start ≡ Some head → c.after.rest ≡ c.before.rest → c.after.source_faults ≡ c.before.source_faults
    → (c.status ≡ status.ReadFault → HasCause c.before.source_faults c.after.source_faults) → (c.status ≡ status.WriteFault → HasCause c.before.sink_faults c.after.sink_faults)
    → c.before.sink_faults ≤ c.after.sink_faults → KeepsPromises c
generated_keeps c head seed batches size n s disk e attempt begun is run one none_stand dated asks start rest faults read write sink =
    let whole : c.status ≡ status_of_led e false = is ∙ sym (status_of_led-whole e) in
    opened_keeps c head s disk begun (kept_goes s disk c.after.disk c.entries attempt run.lasted.kept) none_stand (mode.Generate seed batches size n) asks refl (λ other. absurd (other refl)) start
    (lines_tell c head s disk e false attempt run.ran.done run.ran.next begun whole run.lasted run.ran.tried read write)
    (subst (λ (o : Option ℕ). IfSome o (IsGeneratedCall c (lines_of_script seed batches size))) (sym start) (record {
      state = s;
      end = e;
      attempt = attempt;
      status_is = is;
      ran = run.ran;
      lines = lines_call c head s disk e false attempt run.ran.done run.ran.next begun whole run.lasted run.ran.tried read write dated one;
      unread = (rest, faults);
    })) (subst (λ k. c.before.source_faults ≤ k) (sym faults) (le_refl c.before.source_faults)) sink
