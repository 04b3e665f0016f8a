use Rattle.std.proofs.Common.{◌∙◌, refl, sym, ap, subst, Some}
use Rattle.jf_words.specs.declared.modes.Mode.TheVariants as mode
use Rattle.jf_run.specs.Calls.{devices, disk_of, program_call}
use Rattle.jf_run.specs.Promises.{KeepsPromises}
use Rattle.jf_run.proofs.CheckedCalls.{told_elsewhere}
use Rattle.jf_run.proofs.Checks.{checked_keeps}
use Rattle.jf_run.proofs.check_over.check_over.Goals as goal

pub returns-clause-here : goal.returns-clause-here
returns-clause-here g c = λ head root ends. told_elsewhere c.check_disk-told.result head root (sym (c.without_store.ensures.status ∙ c.of_check.ensures) ∙ ends)

pub returns-clause-kept : goal.returns-clause-kept
returns-clause-kept g c = λ rest source_faults.
    let out = c.without_store.ensures in
    let did = c.check_disk-told.ensures in
    let text = g.K.Sink.text in
    let faults = g.K.Sink.faults in
    let sink = c.check_disk-told.new.sink in
    subst (λ d. KeepsPromises (program_call (Some mode.Check) (g.D.Disk.missing c.args.disk) (devices (disk_of g.D.Disk c.args.disk) rest source_faults (text c.args.sink.now) (faults c.args.sink.now))
    (devices (disk_of g.D.Disk d) rest source_faults (text sink) (faults sink)) c.without_store.result.status c.without_store.result.entries c.without_store.result.start)) (sym out.disk)
    (checked_keeps (program_call (Some mode.Check) (g.D.Disk.missing c.args.disk) (devices (disk_of g.D.Disk c.args.disk) rest source_faults (text c.args.sink.now) (faults c.args.sink.now))
    (devices (disk_of g.D.Disk c.check_disk-told.new.disk) rest source_faults (text sink) (faults sink)) c.without_store.result.status c.without_store.result.entries c.without_store.result.start)
    c.check_disk-told.result c.files_stand_for_sound.ensures out.start out.entries refl (out.status ∙ c.of_check.ensures) did.written did.store did.idle did.calls did.calm did.moments refl refl did.cause
    (λ ends. let same = did.unwritten ends in (ap text same, ap faults same)) did.counts)
