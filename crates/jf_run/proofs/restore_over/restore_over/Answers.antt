use Rattle.std.proofs.Common.{refl, sym, ◌∙◌}
use Rattle.jf_run.proofs.Restored.{received_here, restored_keeps, occupied_told}
use Rattle.jf_run.proofs.restore_over.restore_over.Goals as goal

pub returns-clause-kept : goal.returns-clause-kept
returns-clause-kept g c = λ missing before head begun dated held.
    let r = c.receive-how.ensures in
    let out = c.of_engine.ensures in
    restored_keeps _ c.args.version c.args.root c.args.workers head c.args.engine c.receive-how.new.engine c.receive-how.result c.damage_is_no_versions.ensures begun (λ h told. c.know.ensures.settled h told c.requires.whole)
    out.resting (out.status ∙ c.of_received.ensures) (out.entries ∙ c.new.ensures) refl refl r.received r.occupied r.refused r.accepted r.read r.write r.counts.0 r.counts.1

pub returns-clause-here : goal.returns-clause-here
returns-clause-here g c = λ head root ends. received_here c.receive-how.result head root (sym (c.of_engine.ensures.status ∙ c.of_received.ensures) ∙ ends)

pub returns-clause-untouched : goal.returns-clause-untouched
returns-clause-untouched g c = λ head is. c.receive-how.ensures.untouched head (occupied_told c.receive-how.result head (sym (c.of_engine.ensures.status ∙ c.of_received.ensures) ∙ is))
