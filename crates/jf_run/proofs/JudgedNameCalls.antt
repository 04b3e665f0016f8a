-- What a call promises that looked a name up in a reply.
use Rattle.std.specs.Prelude.{IfSome, IfNone, IsTrue}
use Rattle.std.proofs.Common.{◌≡◌, ◌⊎◌, ◌∙◌, ◌≤◌, ℕ, [], List, Option, Some, None, true≢false, sym, subst, ap}
use Rattle.jf_path.specs.Faults.{HasCause}
use Rattle.jf_files.specs.Laws.{FilesStandForSound}
use Rattle.jf_engine.specs.Openings.{DiskView}
use Rattle.jf_words.specs.Shapes.{IsIdleWithoutStore, asked_shape}
use Rattle.jf_words.specs.declared.modes.Mode.{Mode}
use Rattle.jf_words.specs.declared.modes.Mode.TheVariants as mode
use Rattle.jf_run.specs.Calls.{ProgramCall}
use Rattle.jf_run.specs.Closed.{IsClosedCall}
use Rattle.jf_run.specs.JudgingNames.{HasJudgedName}
use Rattle.jf_run.specs.Promises.{KeepsPromises, Owes}
use Rattle.jf_run.specs.declared.status.Status.TheVariants as status
use Rattle.jf_run.proofs.Closed.{closed_untouched, forward_untouched}
use Rattle.jf_run.proofs.Complete.{steady}
use Rattle.jf_run.proofs.JudgedNames.{names_words, names_disk, names_files, names_well}

pub names_keep : (c : ProgramCall) (root name : List ℕ) → FilesStandForSound → c.after.disk ≡ c.before.disk → c.start ≡ None → c.entries ≡ [] → c.asks ≡ Some (mode.Judge root name)
    → HasJudgedName c.status root name c.before.rest c.after.rest c.before.text c.after.text
    → ((c.status ≡ status.ReadFault) ⊎ (c.status ≡ status.Memory) → c.after.sink_faults ≡ c.before.sink_faults)
    → (c.status ≡ status.ReadFault → HasCause c.before.source_faults c.after.source_faults) → (c.status ≡ status.WriteFault → HasCause c.before.sink_faults c.after.sink_faults)
    → c.before.source_faults ≤ c.after.source_faults → c.before.sink_faults ≤ c.after.sink_faults → KeepsPromises c
names_keep c root name all_sound same start none asks j silent read write source sink =
    let closed_mode : IsTrue (asked_shape c.asks).opens → ⊥ = λ words. true≢false (sym words ∙ ap (λ (o : Option Mode). (asked_shape o).opens) asks) in
    record {
      words = record { usage = λ e. absurd (names_words c.status root name _ _ _ _ j e); usage_only = λ e. absurd (let no : Some (mode.Judge root name) ≡ None = sym asks ∙ e in cc); start = λ e. start; entries = λ other. none };
      causes = record { read = read; write = write; disk = λ e. absurd (names_disk c.status root name _ _ _ _ j e); calm = λ e. ap (λ (d : DiskView). d.faults) same };
      damage = record {
        damaged = λ h told side at e. absurd (names_files c.status root name _ _ _ _ j side at e);
        damage_named = λ h told side at words here. absurd (closed_mode words);
      };
      forward = forward_untouched c same none source sink;
      closed = subst (λ o. IfNone o (IsClosedCall c)) (sym start)
          (closed_untouched c all_sound same none (λ idle. absurd (true≢false (sym (subst IsIdleWithoutStore asks idle)))) (λ opens. absurd (closed_mode opens)));
      owed = subst (λ (o : Option Mode). IfSome o (λ m. Owes m c)) (sym asks) (record {
        start = start;
        entries = none;
        judged = j;
        silent = silent;
        complete = λ a b. names_well c.status root name _ _ _ _ j (λ r. steady c.before.source_faults c.after.source_faults a.0 a.1 (read r)) (λ w. steady c.before.sink_faults c.after.sink_faults b.0 b.1 (write w));
      });
    }
