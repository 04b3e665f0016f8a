use Rattle.jf_session.proofs.session.Session.commit.Goals as goal

pub returns-in-Ok : goal.returns-in-Ok
returns-in-Ok g c = c.in-Ok.ensures.landed.done
