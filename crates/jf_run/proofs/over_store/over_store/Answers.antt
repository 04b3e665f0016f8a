use Rattle.std.proofs.Common.{sym, subst}
use Rattle.jf_model.specs.States.{state_when_opened}
use Rattle.jf_run.specs.Calls.{disk_of, engine_disk, shown_devices}
use Rattle.jf_run.specs.Runs.{IsBegun}
use Rattle.jf_run.proofs.Untouched.{all_untouched}
use Rattle.jf_run.proofs.over_store.over_store.Goals as goal

pub returns-in-Err-clause-kept : goal.returns-in-Err-clause-kept
returns-in-Err-clause-kept g c = c.in-Err.ensures.refused.kept (shown_devices g.S.Source g.K.Sink c.args.source.now c.args.sink.now (disk_of g.D.Disk c.args.disk))

pub returns-clause-kept : goal.returns-clause-kept
returns-clause-kept g c =
    let e = c.in-Ok.engine in
    let s = state_when_opened e.versions e.generation in
    let before = disk_of g.D.Disk c.args.disk in
    let head = c.state-head.result.head in
    let begun : IsBegun s before (engine_disk e) head = subst (λ n. IsBegun s before (engine_disk e) n) (sym c.state-head.ensures.versions.2) c.in-Ok.ensures.opened.begun in
    c.do_mode-status.ensures.kept (g.D.Disk.missing c.args.disk) before head begun c.know_dated.ensures c.in-Ok.ensures.opened.held

pub returns-in-Err-clause-untouched : goal.returns-in-Err-clause-untouched
returns-in-Err-clause-untouched g c = all_untouched c.args.mode _ _ _

pub returns-clause-untouched : goal.returns-clause-untouched
returns-clause-untouched g c = c.do_mode-status.ensures.untouched
