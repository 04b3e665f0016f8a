use Rattle.std.proofs.Common.{◌≡◌, refl, sym, subst, ℕ, true≢false}
use Rattle.jf_model.specs.States.{state_when_opened}
use Rattle.jf_model.specs.Versions.{root_of}
use Rattle.jf_run.specs.Calls.{engine_disk}
use Rattle.jf_run.specs.declared.status.Status.TheVariants as status
use Rattle.jf_run.proofs.ReadOnly.{read_only}
use Rattle.jf_run.proofs.Resuming.{elsewhere_keeps, resumed_keeps}
use Rattle.jf_run.proofs.resume_over.resume_over.Goals as goal

pub returns-then-not-is_root_at-clause-kept : goal.returns-then-not-is_root_at-clause-kept
returns-then-not-is_root_at-clause-kept g c = λ missing before head begun dated held.
    let e = c.args.engine in
    let known = c.know.ensures in
    let out = c.elsewhere.ensures in
    elsewhere_keeps _ c.args.version c.args.workers head c.args.root (state_when_opened e.versions e.generation) c.damage_is_no_versions.ensures refl refl held c.files_stand_for_one.ensures (λ there. true≢false (sym (c.if-not-is_root_at.ensures.1 there)))
    (read_only _ head e known.sound known.dated (λ h is. known.settled h is c.requires.whole) begun c.files_stand_for_one.ensures out.resting out.entries)
    (subst (λ (n : ℕ). c.elsewhere.result.status ≡ status.Elsewhere n (root_of e.versions n)) begun.head_is out.status) refl

pub returns-clause-kept : goal.returns-clause-kept
returns-clause-kept g c = λ missing before head begun dated held.
    let e = c.args.engine in
    let done = c.script_over.ensures in
    let ran = done.ran.1 in
    resumed_keeps _ c.args.version c.args.workers head c.args.root (state_when_opened e.versions e.generation) c.damage_is_no_versions.ensures refl refl held (c.if-not-is_root_at.ensures.0 refl) (engine_disk e) ran.0 done.ran.0 begun ran.1 ran.2 c.files_stand_for_one.ensures dated
    done.read done.write done.source_counts done.sink_counts
