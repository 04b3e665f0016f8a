use Rattle.jf_session.proofs.LedLines.{led_ok, led_silent, led_err, led_ready}
use Rattle.jf_session.proofs.leader.LeaderLineMachine.take_line.Goals as goal

pub returns-clause-ok : goal.returns-clause-ok
returns-clause-ok g c = led_ok _ _ _ _ _ c.lead.result (c.requires.1.steps.1 _ _ _ _ _ _ _ c.lead.ensures)

pub returns-clause-err : goal.returns-clause-err
returns-clause-err g c = led_err _ _ _ _ _ c.lead.result (c.requires.1.steps.1 _ _ _ _ _ _ _ c.lead.ensures)

pub returns-clause-silent : goal.returns-clause-silent
returns-clause-silent g c = led_silent _ _ _ _ _ c.lead.result (c.requires.1.steps.1 _ _ _ _ _ _ _ c.lead.ensures)

pub returns-clause-ready : goal.returns-clause-ready
returns-clause-ready g c = led_ready _ c.requires.0 _ _ c.args.next.line.now _ _ c.lead.result _ _ c.requires.1 (c.requires.1.steps.1 _ _ _ _ _ _ _ c.lead.ensures)
