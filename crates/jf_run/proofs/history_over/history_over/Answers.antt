use Rattle.std.proofs.Common.{◌∙◌, refl, sym}
use Rattle.jf_model.specs.States.{state_when_opened}
use Rattle.jf_run.proofs.ReadOnly.{read_only}
use Rattle.jf_run.proofs.Histories.{history_here, history_keeps}
use Rattle.jf_run.proofs.history_over.history_over.Goals as goal

pub returns : goal.returns
returns g c = record {
  resting = c.of_engine.ensures.resting;
  here = λ head root ends. history_here c.write_history-written.result head root (sym (c.of_engine.ensures.status ∙ c.of_history.ensures) ∙ ends);
  kept = λ rest source_faults missing before head begun dated held.
      let e = c.args.engine in
      let known = c.know.ensures in
      let out = c.of_engine.ensures in
      let told = c.write_history-written.ensures in
      history_keeps _ c.args.version head (state_when_opened e.versions e.generation) c.write_history-written.result
      (read_only _ head e known.sound known.dated (λ h is. known.settled h is c.requires.whole) begun c.files_stand_for_one.ensures out.resting (out.entries ∙ c.new.ensures)) c.damage_is_no_versions.ensures refl refl
      (out.status ∙ c.of_history.ensures) told.written refl refl told.cause told.counts;
}
