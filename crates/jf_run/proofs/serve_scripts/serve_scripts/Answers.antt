use Rattle.std.specs.Prelude.{OnOk, OnErr}
use Rattle.std.proofs.Common.{◌≡◌, ◌∙◌, refl, sym, ap, ap₂, subst, ℕ, List, map, length, None, inl, inr}
use Rattle.jf_io.specs.Lines.{lines}
use Rattle.jf_io.specs.Sink.{IsCutShort}
use Rattle.jf_input.specs.Feeds.{Appends}
use Rattle.jf_model.specs.States.{state_when_opened}
use Rattle.jf_model.specs.declared.entries.Entry.{Entry}
use Rattle.jf_engine.specs.Openings.{DiskView}
use Rattle.jf_store.specs.Starts.{Start, start_with}
use Rattle.jf_store.specs.Passes.{Store, Pass, AreNewPasses}
use Rattle.jf_history.specs.declared.end.End.{End}
use Rattle.jf_serve.specs.ServedTexts.{served_text}
use Rattle.jf_run.specs.Calls.{disk_of, engine_disk}
use Rattle.jf_run.specs.Statuses.{status_of_served}
use Rattle.jf_run.specs.Runs.{KeepsEntries}
use Rattle.jf_run.specs.Serving.{HasServedScripts}
use Rattle.jf_run.specs.declared.status.Status.{Status}
use Rattle.jf_run.specs.declared.status.Status.TheVariants as status
use Rattle.jf_run.proofs.RunsLaws.{nothing_kept}
use Rattle.jf_run.proofs.ServedEnds.{sink_told}
use Rattle.jf_run.proofs.ServedScripts.{new_belong, new_are_all, unused_kept, served_kept, served_scripts}
use Rattle.jf_run.proofs.serve_scripts.serve_scripts.Goals as goal

pub returns-in-Err-clause-served : goal.returns-in-Err-clause-served
returns-in-Err-clause-served g c =
    let e = c.args.engine in
    let s = state_when_opened e.versions e.generation in
    let old = engine_disk e in
    let out = c.of_engine.ensures in
    let none = out.entries ∙ c.new-in-Err.ensures in
    let shown : disk_of g.D.Disk c.of_engine.result.disk ≡ old = out.resting ∙ ap engine_disk c.in-Err.ensures.engine in (
      None,
      subst (λ (d : DiskView). KeepsEntries s old d c.of_engine.result.entries None) (sym shown)
          (subst (λ (es : List Entry). KeepsEntries s old old es None) (sym none) (nothing_kept e c.know.ensures.sound c.know.ensures.dated (λ h told. c.know.ensures.settled h told c.requires.whole))),
      inl (out.status, none, refl, refl),
    )

pub returns-in-Err-clause-cause : goal.returns-in-Err-clause-cause
returns-in-Err-clause-cause g c = λ is. absurd (let no : status.Memory ≡ status.WriteFault = sym c.of_engine.ensures.status ∙ is in cc)

pub close-engine-requires-clause-own : goal.close-engine-requires-clause-own
close-engine-requires-clause-own g c κs within =
    let back = c.in-Err-serve.ensures.refused in
    let items : c.in-Err-serve.field-0.passes.items ≡ c.in-Ok.made.1.items = λ i. (back.1 i).items in
    new_belong c.in-Err-serve.field-0.store c.in-Err-serve.field-0.passes.items
    (subst (λ (s : Store). AreNewPasses s c.in-Err-serve.field-0.passes.items 0) (sym back.0) (subst (λ (ps : List Pass). AreNewPasses c.in-Ok.made.0 ps 0) (sym items) c.in-Ok.ensures.passes.1))

pub close-engine-requires-clause-gathered : goal.close-engine-requires-clause-gathered
close-engine-requires-clause-gathered g c κs within =
    let back = c.in-Err-serve.ensures.refused in
    let items : c.in-Err-serve.field-0.passes.items ≡ c.in-Ok.made.1.items = λ i. (back.1 i).items in
    new_are_all c.in-Err-serve.field-0.store c.in-Err-serve.field-0.passes.items
    (ap length items ∙ c.in-Ok.ensures.passes.0 ∙ sym (ap (λ (s : Start). s.passes) c.in-Ok.ensures.start) ∙ ap (λ (s : Store). s.start.passes) (sym back.0))
    (subst (λ (s : Store). AreNewPasses s c.in-Err-serve.field-0.passes.items 0) (sym back.0) (subst (λ (ps : List Pass). AreNewPasses c.in-Ok.made.0 ps 0) (sym items) c.in-Ok.ensures.passes.1))

pub returns-in-Err-serve-clause-served : goal.returns-in-Err-serve-clause-served
returns-in-Err-serve-clause-served g c =
    let e = c.args.engine in
    let s = state_when_opened e.versions e.generation in
    let old = engine_disk e in
    let out = c.of_engine-in-Err-serve.ensures in
    let none = out.entries ∙ c.new-in-Err-serve.ensures in
    let d = disk_of g.D.Disk c.of_engine-in-Err-serve.result.disk in
    let back = c.in-Err-serve.ensures.refused in
    let store = c.in-Err-serve.field-0.store in
    let ps = c.in-Err-serve.field-0.passes.items in
    let items : ps ≡ c.in-Ok.made.1.items = λ i. (back.1 i).items in
    let begins : store.start ≡ start_with e (length c.args.scripts.now) store.start.board =
    subst (λ (x : Store). x.start ≡ start_with e (length c.args.scripts.now) x.start.board) (sym back.0) c.in-Ok.ensures.start in
    let many : length ps ≡ store.start.passes = ap length items ∙ c.in-Ok.ensures.passes.0 ∙ sym (ap (λ (x : Start). x.passes) begins) in
    let new : AreNewPasses store ps 0 = subst (λ (x : Store). AreNewPasses x ps 0) (sym back.0) (subst (λ (qs : List Pass). AreNewPasses c.in-Ok.made.0 qs 0) (sym items) c.in-Ok.ensures.passes.1) in (
      None,
      subst (λ (es : List Entry). KeepsEntries s old d es None) (sym none)
          (unused_kept e c.close-engine.result.engine store ps c.close-engine.result.entries d (length c.args.scripts.now) begins many new c.close-engine.ensures out.resting),
      inl (out.status, none, refl, refl),
    )

pub returns-in-Err-serve-clause-cause : goal.returns-in-Err-serve-clause-cause
returns-in-Err-serve-clause-cause g c = λ is. absurd (let no : status.Memory ≡ status.WriteFault = sym c.of_engine-in-Err-serve.ensures.status ∙ is in cc)

pub returns-clause-served : goal.returns-clause-served
returns-clause-served g c =
    let e = c.args.engine in
    let s = state_when_opened e.versions e.generation in
    let old = engine_disk e in
    let r = c.in-Ok-serve.served in
    let served = c.in-Ok-serve.ensures.served in
    let start = c.in-Ok.made.0.start in
    let scripts = map lines c.args.scripts.now in
    let report = c.write_served-report.result in
    let text = g.K.Sink.text c.args.sink.now in
    let text' = g.K.Sink.text c.write_served-report.new.sink in
    let faults = g.K.Sink.faults c.args.sink.now in
    let faults' = g.K.Sink.faults c.write_served-report.new.sink in
    let out = c.of_engine-2.ensures in
    let d = disk_of g.D.Disk c.of_engine-2.result.disk in
    let said : served_text c.as_slice.result.now c.as_slice-2.result.now ≡ served_text r.outputs r.entries = ap₂ served_text c.as_slice.ensures c.as_slice-2.ensures in
    let told : c.of_engine-2.result.status ≡ status_of_served r.ends report = out.status ∙ c.of_served.ensures ∙ ap (λ (es : List End). status_of_served es report) c.as_slice-3.ensures in (
      served.attempt,
      subst (λ (es : List Entry). KeepsEntries s old d es served.attempt) (sym out.entries) (served_kept e r.engine start scripts r.outputs r.ends r.entries d (length c.args.scripts.now) c.in-Ok.ensures.start served out.resting),
      inr (subst (λ (st : Status). HasServedScripts st s old d scripts c.of_engine-2.result.entries served.attempt text text' faults faults') (sym told)
          (subst (λ (es : List Entry). HasServedScripts (status_of_served r.ends report) s old d scripts es served.attempt text text' faults faults') (sym out.entries)
          (served_scripts e r.engine start scripts r.outputs r.ends r.entries d report text text' faults faults' (length c.args.scripts.now) c.in-Ok.ensures.start served out.resting
          (subst (λ (t : List ℕ). OnOk report (Appends text text' t)) said c.write_served-report.ensures.ok)
          (subst (λ (t : List ℕ). OnErr report (IsCutShort text text' t)) said c.write_served-report.ensures.cut_short)
          c.write_served-report.ensures.cause))),
    )

pub returns-clause-cause : goal.returns-clause-cause
returns-clause-cause g c = λ is. c.write_served-report.ensures.cause (sink_told c.as_slice-3.result.now c.write_served-report.result (sym (c.of_engine-2.ensures.status ∙ c.of_served.ensures) ∙ is))
