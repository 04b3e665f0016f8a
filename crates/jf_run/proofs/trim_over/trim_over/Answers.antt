use Rattle.std.specs.Prelude.{OnOk}
use Rattle.std.proofs.Common.{◌≡◌, ◌+◌, ◌≤◌, ◌∙◌, refl, sym, ap, subst}
use Rattle.jf_path.specs.Faults.{HasCause}
use Rattle.jf_engine.specs.Faults.{of_pair}
use Rattle.jf_run.specs.Statuses.{status_of_refusal}
use Rattle.jf_run.proofs.Trimming.{IsTold, line_told, trimmed_keeps, untrimmed_told}
use Rattle.jf_run.proofs.trim_over.trim_over.Goals as goal
use Rattle.jf_run.proofs.trim_over.trim_over.Goals.{in-Ok, in-Err}

pub returns-clause-kept : goal.returns-clause-kept
returns-clause-kept g c = λ rest source_faults missing before head begun dated held.
    let e = c.args.engine in
    let text = g.K.Sink.text in
    let faults = g.K.Sink.faults in
    let old = c.args.sink.now in
    let new = c.match-trim.sink in
    let done : IsTold c.trim.result c.match-trim.status (text old) (text new) (faults old) (faults new) =
    elim c.match-trim.branch [
      | in-Ok w ↦ let told = w.tell_trimmed-status.ensures in
          subst (λ k. IsTold c.trim.result c.match-trim.status (text old) (text k) (faults old) (faults k)) (sym w.sink-is)
          (subst (λ s. IsTold c.trim.result s (text old) (text w.tell_trimmed-status.new.sink) (faults old) (faults w.tell_trimmed-status.new.sink)) (sym w.status-is)
          (subst (λ how. IsTold how w.tell_trimmed-status.result (text old) (text w.tell_trimmed-status.new.sink) (faults old) (faults w.tell_trimmed-status.new.sink)) (sym w.in-Ok.is)
          (line_told w.in-Ok.trimmed w.tell_trimmed-status.result (text old) (text w.tell_trimmed-status.new.sink) (faults old) (faults w.tell_trimmed-status.new.sink) told.written (λ e. ap faults (told.unwritten e)) told.cause told.counts)))
      | in-Err w ↦ subst (λ k. IsTold c.trim.result c.match-trim.status (text old) (text k) (faults old) (faults k)) (sym w.sink-is)
          (subst (λ s. IsTold c.trim.result s (text old) (text old) (faults old) (faults old)) (sym (w.status-is ∙ w.of_refusal-status.ensures ∙ ap status_of_refusal w.from.ensures))
          (subst (λ how. IsTold how (status_of_refusal (of_pair w.in-Err.why)) (text old) (text old) (faults old) (faults old)) (sym w.in-Err.is) (untrimmed_told w.in-Err.why (text old) (faults old))))
    ] in
    let t = c.trim.ensures in
    let same = c.into_parts-disk.ensures in
    trimmed_keeps _ head e c.trim.result c.damage_is_no_versions.ensures c.files_stand_for_one.ensures c.kept_stores_stop_well.ensures c.know.ensures.sound begun (λ h told. c.know.ensures.settled h told c.requires.whole) refl refl c.new.ensures
    done.told (λ h told. t.kept h (same.history ∙ told)) (λ h told. t.trimmed h (same.history ∙ told)) (λ h side at told. t.damaged h side at (same.history ∙ told))
    (λ h why told. t.err h why (same.history ∙ told)) (subst (λ m. OnOk c.trim.result (g.D.Disk.faults c.trim.new.disk ≡ m)) same.faults t.calm)
    (record {
      unknown = λ none. t.calls.unknown (same.history ∙ none);
      later = subst (λ m. m ≤ g.D.Disk.moment c.trim.new.disk) same.moment t.calls.later;
      counted = subst (λ m. m ≤ g.D.Disk.faults c.trim.new.disk) same.faults t.calls.counted;
      cause = λ fault. subst (λ m. HasCause m (g.D.Disk.faults c.trim.new.disk)) same.faults (t.calls.cause fault);
    })
    refl refl done.silent done.write done.counts

pub returns-clause-moments : goal.returns-clause-moments
returns-clause-moments g c = subst (λ m. g.D.Disk.moment c.trim.new.disk ≤ m + 15) c.into_parts-disk.ensures.moment c.trim.ensures.moments
