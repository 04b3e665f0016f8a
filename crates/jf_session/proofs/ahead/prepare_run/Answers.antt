use Rattle.jf_session.proofs.ahead.prepare_run.Goals as goal

pub returns-in-Ok : goal.returns-in-Ok
returns-in-Ok g c = c.join_prepared.ensures c.args.head.now.map c.args.seen c.in-Ok.ensures
