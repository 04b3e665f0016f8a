use Rattle.std.proofs.Common.{◌≡◌, ◌∙◌, refl, sym, subst, ap, ap₂, IsTrue, inl, inr}
use Rattle.jf_model.specs.States.{state_when_opened}
use Rattle.jf_run.specs.Calls.{disk_of, shown_devices}
use Rattle.jf_run.specs.Statuses.{is_input_fault, status_of_names}
use Rattle.jf_run.specs.declared.status.Status.{Status}
use Rattle.jf_run.proofs.ReadOnly.{read_only}
use Rattle.jf_run.proofs.Many.{input_told, many_keeps, names_here, outside_told}
use Rattle.jf_run.proofs.many_over.many_over.Goals as goal

pub returns-clause-unwritten : goal.returns-clause-unwritten
returns-clause-unwritten g c = λ ends.
    let told = c.answer_names-answered.ensures in
    let how = c.answer_names-answered.result in
    let is : c.of_engine.result.status ≡ status_of_names how = c.of_engine.ensures.status ∙ c.of_names.ensures in
    elim (input_told how (subst (λ (s : Status). IsTrue (is_input_fault s)) is ends)) [ inl read ↦ told.unwritten read | inr line ↦ told.silent line.0 (inl line.1) ]

pub returns-clause-outside : goal.returns-clause-outside
returns-clause-outside g c = λ least head ends.
    c.answer_names-answered.ensures.untouched least head (outside_told c.answer_names-answered.result least head (sym (c.of_engine.ensures.status ∙ c.of_names.ensures) ∙ ends))

pub returns-clause-here : goal.returns-clause-here
returns-clause-here g c = λ head root ends. names_here c.answer_names-answered.result head root (sym (c.of_engine.ensures.status ∙ c.of_names.ensures) ∙ ends)

pub returns-clause-kept : goal.returns-clause-kept
returns-clause-kept g c = λ missing before head begun dated held.
    let e = c.args.engine in
    let known = c.know.ensures in
    let out = c.of_engine.ensures in
    let told = c.answer_names-answered.ensures in
    many_keeps _ c.args.version head (state_when_opened e.versions e.generation) c.answer_names-answered.result
    (read_only _ head e known.sound known.dated (λ h is. known.settled h is c.requires.whole) begun c.files_stand_for_one.ensures out.resting (out.entries ∙ c.new.ensures)) c.damage_is_no_versions.ensures refl refl
    (out.status ∙ c.of_names.ensures) told.answered told.line
    (λ least greatest is. let same = told.untouched least greatest is in ap₂ (λ s k. shown_devices g.S.Source g.K.Sink s k (disk_of g.D.Disk c.of_engine.result.disk)) same.0 same.1)
    (λ at is. ap g.K.Sink.faults (told.silent at is)) told.read told.write told.counts.0 told.counts.1
