use Rattle.std.proofs.Common.{ap, refl, subst, sym, ◌∙◌, List, ℕ}
use Rattle.jf_model.specs.States.{state_when_opened}
use Rattle.jf_words.specs.Modes.{KeepsLimits}
use Rattle.jf_words.specs.declared.modes.Mode.TheVariants as mode
use Rattle.jf_run.specs.Calls.{disk_of, engine_disk}
use Rattle.jf_run.specs.Runs.{HasGenerated}
use Rattle.jf_run.proofs.LinesDone.{generated_keeps, led_keeps, run_keeps}
use Rattle.jf_run.proofs.Opened.{completes_as}
use Rattle.jf_run.proofs.Statuses.{run_here, script_here}
use Rattle.jf_run.proofs.Untouched.{untouched_as}
use Rattle.jf_run.proofs.do_mode.do_mode.Goals as goal

-- ---- run
pub returns-in-Run-clause-kept : goal.returns-in-Run-clause-kept
returns-in-Run-clause-kept g c = completes_as _ _ _ _ _ _ _ c.in-Run.is (λ missing before head begun dated held.
    let e = c.args.engine in
    let done = c.script_over.ensures in
    let ran = done.ran.1 in
    run_keeps _ head (state_when_opened e.versions e.generation) (engine_disk e) ran.0 done.ran.0 begun ran.1 ran.2 c.files_stand_for_one.ensures c.damage_is_no_versions.ensures dated refl
    (mode.Run c.in-Run.workers) refl refl refl (λ r same. r) done.read done.write done.source_counts done.sink_counts)

pub returns-in-Run-clause-untouched : goal.returns-in-Run-clause-untouched
returns-in-Run-clause-untouched g c = untouched_as _ _ _ _ _ _ _ c.in-Run.is (record {
  unread = λ e. absurd (cc);
  unwritten = λ e ends. absurd (cc);
  occupied = λ e head ends. absurd (cc);
  outside = λ e least head ends. absurd (cc);
  elsewhere = λ head root ends. let ran = c.script_over.ensures.ran.1 in absurd (run_here ran.0 head root (sym ran.1 ∙ ends));
})

pub returns-in-Run-clause-elsewhere : goal.returns-in-Run-clause-elsewhere
returns-in-Run-clause-elsewhere g c = λ head root ends. let ran = c.script_over.ensures.ran.1 in absurd (run_here ran.0 head root (sym ran.1 ∙ ends))

-- ---- resume
pub returns-in-Resume-clause-kept : goal.returns-in-Resume-clause-kept
returns-in-Resume-clause-kept g c = completes_as _ _ _ _ _ _ _ c.in-Resume.is c.resume_over.ensures.kept

pub returns-in-Resume-clause-untouched : goal.returns-in-Resume-clause-untouched
returns-in-Resume-clause-untouched g c = untouched_as _ _ _ _ _ _ _ c.in-Resume.is (record {
  unread = λ e. absurd (cc);
  unwritten = λ e ends. absurd (cc);
  occupied = λ e head ends. absurd (cc);
  outside = λ e least head ends. absurd (cc);
  elsewhere = λ head root ends. c.resume_over.ensures.elsewhere head root ends;
})

pub returns-in-Resume-clause-elsewhere : goal.returns-in-Resume-clause-elsewhere
returns-in-Resume-clause-elsewhere g c = λ head root ends. c.resume_over.ensures.resting head root ends

-- ---- serve
pub returns-in-Serve-clause-kept : goal.returns-in-Serve-clause-kept
returns-in-Serve-clause-kept g c = completes_as _ _ _ _ _ _ _ c.in-Serve.is c.serve_over.ensures.kept

pub returns-in-Serve-clause-untouched : goal.returns-in-Serve-clause-untouched
returns-in-Serve-clause-untouched g c = untouched_as _ _ _ _ _ _ _ c.in-Serve.is (record {
  unread = λ e. absurd (cc);
  unwritten = λ e ends. c.serve_over.ensures.unwritten ends;
  occupied = λ e head ends. absurd (cc);
  outside = λ e least head ends. c.serve_over.ensures.outside least head ends;
  elsewhere = λ head root ends. absurd (c.serve_over.ensures.here head root ends);
})

pub returns-in-Serve-clause-elsewhere : goal.returns-in-Serve-clause-elsewhere
returns-in-Serve-clause-elsewhere g c = λ head root ends. absurd (c.serve_over.ensures.here head root ends)

-- ---- lead
pub returns-in-Lead-clause-kept : goal.returns-in-Lead-clause-kept
returns-in-Lead-clause-kept g c = completes_as _ _ _ _ _ _ _ c.in-Lead.is (λ missing before head begun dated held.
    let e = c.args.engine in
    let done = c.script_over-in-Lead.ensures in
    let led = done.ran.1 in
    led_keeps _ head c.in-Lead.workers (state_when_opened e.versions e.generation) (engine_disk e) led.0 led.1 done.ran.0 begun led.2 led.3 c.files_stand_for_one.ensures c.damage_is_no_versions.ensures dated refl refl
    done.read done.write done.source_counts done.sink_counts)

pub returns-in-Lead-clause-untouched : goal.returns-in-Lead-clause-untouched
returns-in-Lead-clause-untouched g c = untouched_as _ _ _ _ _ _ _ c.in-Lead.is (record {
  unread = λ e. absurd (cc);
  unwritten = λ e ends. absurd (cc);
  occupied = λ e head ends. absurd (cc);
  outside = λ e least head ends. absurd (cc);
  elsewhere = λ head root ends. let led = c.script_over-in-Lead.ensures.ran.1 in absurd (script_here led.0 led.1 head root (sym led.2.status_is ∙ ends));
})

pub returns-in-Lead-clause-elsewhere : goal.returns-in-Lead-clause-elsewhere
returns-in-Lead-clause-elsewhere g c = λ head root ends. let led = c.script_over-in-Lead.ensures.ran.1 in absurd (script_here led.0 led.1 head root (sym led.2.status_is ∙ ends))

-- ---- follow
pub returns-in-Follow-clause-kept : goal.returns-in-Follow-clause-kept
returns-in-Follow-clause-kept g c = completes_as _ _ _ _ _ _ _ c.in-Follow.is c.follow_over.ensures.kept

pub returns-in-Follow-clause-untouched : goal.returns-in-Follow-clause-untouched
returns-in-Follow-clause-untouched g c = untouched_as _ _ _ _ _ _ _ c.in-Follow.is (record {
  unread = λ e. absurd (cc);
  unwritten = λ e ends. c.follow_over.ensures.unwritten ends;
  occupied = λ e head ends. absurd (cc);
  outside = λ e least head ends. absurd (c.follow_over.ensures.inside least head ends);
  elsewhere = λ head root ends. absurd (c.follow_over.ensures.here head root ends);
})

pub returns-in-Follow-clause-elsewhere : goal.returns-in-Follow-clause-elsewhere
returns-in-Follow-clause-elsewhere g c = λ head root ends. absurd (c.follow_over.ensures.here head root ends)

-- ---- generate
pub new-lines-requires-clause-batches : goal.new-lines-requires-clause-batches
new-lines-requires-clause-batches g c = (subst KeepsLimits c.in-Generate.is c.requires.limits).0

pub new-lines-requires-clause-size : goal.new-lines-requires-clause-size
new-lines-requires-clause-size g c = (subst KeepsLimits c.in-Generate.is c.requires.limits).1

pub returns-in-Generate-clause-kept : goal.returns-in-Generate-clause-kept
returns-in-Generate-clause-kept g c = completes_as _ _ _ _ _ _ _ c.in-Generate.is (λ missing before head begun dated held.
    let e = c.args.engine in
    let s = state_when_opened e.versions e.generation in
    let step = c.script_over-in-Generate in
    let done = step.ensures in
    let ran = done.ran.1 in
    generated_keeps _ head c.in-Generate.seed c.in-Generate.batches c.in-Generate.size c.in-Generate.workers s (engine_disk e) ran.0 done.ran.0 begun ran.1
    (subst (λ (ls : List (List ℕ)). HasGenerated ran.0 s (engine_disk e) (disk_of g.D.Disk step.result.disk) ls step.result.entries done.ran.0 (g.K.Sink.text c.args.sink.now) (g.K.Sink.text step.new.sink)) c.new-lines.ensures.lines ran.2)
    c.files_stand_for_one.ensures c.damage_is_no_versions.ensures dated refl refl (ap g.S.Source.rest done.unread) (ap g.S.Source.faults done.unread) done.read done.write done.sink_counts)

pub returns-in-Generate-clause-untouched : goal.returns-in-Generate-clause-untouched
returns-in-Generate-clause-untouched g c = untouched_as _ _ _ _ _ _ _ c.in-Generate.is (record {
  unread = λ e. c.script_over-in-Generate.ensures.unread;
  unwritten = λ e ends. absurd (cc);
  occupied = λ e head ends. absurd (cc);
  outside = λ e least head ends. absurd (cc);
  elsewhere = λ head root ends. let ran = c.script_over-in-Generate.ensures.ran.1 in absurd (run_here ran.0 head root (sym ran.1 ∙ ends));
})

pub returns-in-Generate-clause-elsewhere : goal.returns-in-Generate-clause-elsewhere
returns-in-Generate-clause-elsewhere g c = λ head root ends. let ran = c.script_over-in-Generate.ensures.ran.1 in absurd (run_here ran.0 head root (sym ran.1 ∙ ends))

-- ---- restore
pub restore_over-requires-clause-bounded : goal.restore_over-requires-clause-bounded
restore_over-requires-clause-bounded g c κs within = (subst KeepsLimits c.in-Restore.is c.requires.limits).0

pub returns-in-Restore-clause-kept : goal.returns-in-Restore-clause-kept
returns-in-Restore-clause-kept g c = completes_as _ _ _ _ _ _ _ c.in-Restore.is c.restore_over.ensures.kept

pub returns-in-Restore-clause-untouched : goal.returns-in-Restore-clause-untouched
returns-in-Restore-clause-untouched g c = untouched_as _ _ _ _ _ _ _ c.in-Restore.is (record {
  unread = λ e. absurd (cc);
  unwritten = λ e ends. absurd (cc);
  occupied = λ e head ends. c.restore_over.ensures.untouched head ends;
  outside = λ e least head ends. absurd (cc);
  elsewhere = λ head root ends. absurd (c.restore_over.ensures.here head root ends);
})

pub returns-in-Restore-clause-elsewhere : goal.returns-in-Restore-clause-elsewhere
returns-in-Restore-clause-elsewhere g c = λ head root ends. absurd (c.restore_over.ensures.here head root ends)

-- ---- trim
pub returns-in-Trim-clause-kept : goal.returns-in-Trim-clause-kept
returns-in-Trim-clause-kept g c = completes_as _ _ _ _ _ _ _ c.in-Trim.is (c.trim_over.ensures.kept (g.S.Source.rest c.args.source.now) (g.S.Source.faults c.args.source.now))

pub returns-in-Trim-clause-untouched : goal.returns-in-Trim-clause-untouched
returns-in-Trim-clause-untouched g c = untouched_as _ _ _ _ _ _ _ c.in-Trim.is (record {
  unread = λ e. refl;
  unwritten = λ e ends. absurd (cc);
  occupied = λ e head ends. absurd (cc);
  outside = λ e least head ends. absurd (cc);
  elsewhere = λ head root ends. absurd (c.trim_over.ensures.here head root ends);
})

pub returns-in-Trim-clause-elsewhere : goal.returns-in-Trim-clause-elsewhere
returns-in-Trim-clause-elsewhere g c = λ head root ends. absurd (c.trim_over.ensures.here head root ends)

-- ---- history
pub returns-in-History-clause-kept : goal.returns-in-History-clause-kept
returns-in-History-clause-kept g c = completes_as _ _ _ _ _ _ _ c.in-History.is (c.history_over.ensures.kept (g.S.Source.rest c.args.source.now) (g.S.Source.faults c.args.source.now))

pub returns-in-History-clause-untouched : goal.returns-in-History-clause-untouched
returns-in-History-clause-untouched g c = untouched_as _ _ _ _ _ _ _ c.in-History.is (record {
  unread = λ e. refl;
  unwritten = λ e ends. absurd (cc);
  occupied = λ e head ends. absurd (cc);
  outside = λ e least head ends. absurd (cc);
  elsewhere = λ head root ends. absurd (c.history_over.ensures.here head root ends);
})

pub returns-in-History-clause-elsewhere : goal.returns-in-History-clause-elsewhere
returns-in-History-clause-elsewhere g c = λ head root ends. absurd (c.history_over.ensures.here head root ends)

-- ---- many
pub returns-in-Many-clause-kept : goal.returns-in-Many-clause-kept
returns-in-Many-clause-kept g c = completes_as _ _ _ _ _ _ _ c.in-Many.is c.many_over.ensures.kept

pub returns-in-Many-clause-untouched : goal.returns-in-Many-clause-untouched
returns-in-Many-clause-untouched g c = untouched_as _ _ _ _ _ _ _ c.in-Many.is (record {
  unread = λ e. absurd (cc);
  unwritten = λ e ends. c.many_over.ensures.unwritten ends;
  occupied = λ e head ends. absurd (cc);
  outside = λ e least head ends. c.many_over.ensures.outside least head ends;
  elsewhere = λ head root ends. absurd (c.many_over.ensures.here head root ends);
})

pub returns-in-Many-clause-elsewhere : goal.returns-in-Many-clause-elsewhere
returns-in-Many-clause-elsewhere g c = λ head root ends. absurd (c.many_over.ensures.here head root ends)
