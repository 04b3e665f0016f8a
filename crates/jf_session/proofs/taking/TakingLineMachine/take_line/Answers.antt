use Rattle.jf_session.proofs.LineSteps.{took_ok, took_silent, took_err, took_ready}
use Rattle.jf_session.proofs.taking.TakingLineMachine.take_line.Goals as goal

pub returns-clause-ok : goal.returns-clause-ok
returns-clause-ok g c = took_ok _ _ _ _ _ c.step.result (c.requires.1.steps.1 _ _ _ _ _ _ _ c.step.ensures)

pub returns-clause-err : goal.returns-clause-err
returns-clause-err g c = took_err _ _ _ _ _ c.step.result (c.requires.1.steps.1 _ _ _ _ _ _ _ c.step.ensures)

pub returns-clause-silent : goal.returns-clause-silent
returns-clause-silent g c = took_silent _ _ _ _ _ c.step.result (c.requires.1.steps.1 _ _ _ _ _ _ _ c.step.ensures)

pub returns-clause-ready : goal.returns-clause-ready
returns-clause-ready g c = took_ready _ c.requires.0 _ _ c.args.next.line.now _ _ c.step.result _ _ c.requires.1 (c.requires.1.steps.1 _ _ _ _ _ _ _ c.step.ensures)
