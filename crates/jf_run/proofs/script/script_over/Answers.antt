use Rattle.std.proofs.Common.{◌≡◌, ◌∷◌, [], None, List, ap, sym, subst, ◌∙◌}
use Rattle.jf_model.specs.States.{state_when_opened}
use Rattle.jf_model.specs.declared.entries.Entry.{Entry}
use Rattle.jf_engine.specs.Openings.{DiskView}
use Rattle.jf_store.specs.Events.{attempt_of}
use Rattle.jf_store.specs.Starts.{Start}
use Rattle.jf_store.specs.Passes.{Pass}
use Rattle.jf_store.specs.Closing.{AreAllPasses, IsClosed}
use Rattle.jf_run.specs.Calls.{disk_of, engine_disk}
use Rattle.jf_run.specs.ScriptLines.{HasDoneLines, HasDoneScript}
use Rattle.jf_run.specs.declared.status.Status.{Status}
use Rattle.jf_run.specs.declared.status.Status.TheVariants as status
use Rattle.jf_run.proofs.OnlyPass.{one_new, only_left, only_one}
use Rattle.jf_run.proofs.RunsLaws.{closed_script, refused_script}
use Rattle.jf_run.proofs.script.script_over.Goals as goal

pub returns-in-Err-clause-ran : goal.returns-in-Err-clause-ran
returns-in-Err-clause-ran g c =
    let e = c.args.engine in
    let s = state_when_opened e.versions e.generation in
    let script = c.args.script in
    let rest = g.S.Source.rest c.args.source.now in
    let text = g.K.Sink.text c.args.sink.now in
    let faults = g.K.Sink.faults c.args.sink.now in
    let out = c.of_engine.ensures in
    let shown : disk_of g.D.Disk c.of_engine.result.disk ≡ engine_disk e = out.resting ∙ ap engine_disk c.in-Err.ensures.engine in (
      None,
      subst (λ (how : Status). HasDoneScript script how s (engine_disk e) (disk_of g.D.Disk c.of_engine.result.disk) c.of_engine.result.entries None rest rest text text faults faults) (sym out.status)
          (subst (λ (d : DiskView). HasDoneScript script status.Memory s (engine_disk e) d c.of_engine.result.entries None rest rest text text faults faults) (sym shown)
          (subst (λ (es : List Entry). HasDoneScript script status.Memory s (engine_disk e) (engine_disk e) es None rest rest text text faults faults) (sym (out.entries ∙ c.new-in-Err.ensures))
          (refused_script script e rest text faults c.know.ensures.sound c.know.ensures.dated (λ h told. c.know.ensures.settled h told c.requires.whole)))),
    )

pub returns-in-Err-clause-read : goal.returns-in-Err-clause-read
returns-in-Err-clause-read g c = λ is. absurd (let no : status.Memory ≡ status.ReadFault = sym c.of_engine.ensures.status ∙ is in cc)

pub returns-in-Err-clause-write : goal.returns-in-Err-clause-write
returns-in-Err-clause-write g c = λ is. absurd (let no : status.Memory ≡ status.WriteFault = sym c.of_engine.ensures.status ∙ is in cc)

pub close-engine-requires-clause-gathered : goal.close-engine-requires-clause-gathered
close-engine-requires-clause-gathered g c κs within =
    let store = c.in-Ok.made.0 in
    let first = one_new store c.in-Ok.made.1.items c.pop.new.self.items c.in-Some.pass c.in-Ok.ensures.passes.0 c.in-Ok.ensures.passes.1 c.in-Some.ensures.items in
    let p = c.do_lines-pass.result.pass in
    let items : c.push_reserved.new.self.items ≡ p ∷ [] = only_left c.pop.new.self.items c.push_reserved.new.self.items p first.0 c.push_reserved.ensures.items in
    subst (λ (ps : List Pass). AreAllPasses store ps) (sym items)
    (only_one store p (ap (λ (s : Start). s.passes) c.in-Ok.ensures.start) (c.do_lines-pass.ensures.own.1 ∙ ap (λ (q : Pass). q.number) first.1))

pub returns-clause-ran : goal.returns-clause-ran
returns-clause-ran g c =
    let store = c.in-Ok.made.0 in
    let first = one_new store c.in-Ok.made.1.items c.pop.new.self.items c.in-Some.pass c.in-Ok.ensures.passes.0 c.in-Ok.ensures.passes.1 c.in-Some.ensures.items in
    let script = c.args.script in
    let p = c.do_lines-pass.result.pass in
    let how = c.do_lines-pass.result.status in
    let e = c.args.engine in
    let s = state_when_opened e.versions e.generation in
    let last = c.close-engine.result.engine in
    let es = c.close-engine.result.entries in
    let rest = g.S.Source.rest c.args.source.now in
    let rest' = g.S.Source.rest c.do_lines-pass.new.source in
    let text = g.K.Sink.text c.args.sink.now in
    let text' = g.K.Sink.text c.do_lines-pass.new.sink in
    let faults = g.K.Sink.faults c.args.sink.now in
    let faults' = g.K.Sink.faults c.do_lines-pass.new.sink in
    let items : c.push_reserved.new.self.items ≡ p ∷ [] = only_left c.pop.new.self.items c.push_reserved.new.self.items p first.0 c.push_reserved.ensures.items in
    let closed : IsClosed store.start (p ∷ []) es last = subst (λ (ps : List Pass). IsClosed store.start ps es last) items c.close-engine.ensures in
    let out = c.of_engine-2.ensures in (
      attempt_of p.seen,
      subst (λ (h : Status). HasDoneScript script h s (engine_disk e) (disk_of g.D.Disk c.of_engine-2.result.disk) c.of_engine-2.result.entries (attempt_of p.seen) rest rest' text text' faults faults') (sym out.status)
          (subst (λ (d : DiskView). HasDoneScript script how s (engine_disk e) d c.of_engine-2.result.entries (attempt_of p.seen) rest rest' text text' faults faults') (sym out.resting)
          (subst (λ (xs : List Entry). HasDoneScript script how s (engine_disk e) (engine_disk last) xs (attempt_of p.seen) rest rest' text text' faults faults') (sym out.entries)
          (closed_script script e last store p es how rest rest' text text' faults faults' c.one_pass_closes.ensures c.one_run_is_alone.ensures c.one_lead_tells_all.ensures c.one_script_is_alone.ensures c.floor_spares_pins.ensures c.entry_spares_pins.ensures
          c.in-Ok.ensures.start (c.do_lines-pass.ensures.own.1 ∙ ap (λ (q : Pass). q.number) first.1) closed
          (subst (λ (q : Pass). HasDoneLines script how store.start q p rest rest' text text' faults faults') first.1 c.do_lines-pass.ensures.ran)))),
    )

pub returns-clause-read : goal.returns-clause-read
returns-clause-read g c = λ is. c.do_lines-pass.ensures.read (sym c.of_engine-2.ensures.status ∙ is)

pub returns-clause-write : goal.returns-clause-write
returns-clause-write g c = λ is. c.do_lines-pass.ensures.write (sym c.of_engine-2.ensures.status ∙ is)
