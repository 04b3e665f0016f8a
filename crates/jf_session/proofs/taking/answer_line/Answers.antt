use Rattle.jf_session.proofs.LineSteps.{steps_of}
use Rattle.jf_session.proofs.taking.answer_line.Goals as goal

pub returns : goal.returns
returns g c =
    let e = c.step-stepped.ensures in
    steps_of c.args.store.now.start c.args.session.now c.step-stepped.new.self c.args.line.now c.args.out.now c.step-stepped.new.out c.requires.own.1 c.requires.over c.know_events.ensures c.step-stepped.result e.ok e.goes_on e.silent e.ends e.fault e.broken e.memory
