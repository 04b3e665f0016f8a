use Rattle.jf_follow.proofs.LandingSteps.{took_ok, took_err, took_ready}
use Rattle.jf_follow.proofs.following.LineFollowerLineMachine.take_line.Goals as goal

pub returns-clause-ok : goal.returns-clause-ok
returns-clause-ok g c =
    let shown = g.T.ShowsFollowing.shown in
    took_ok (shown c.args.self.now.following) (shown c.step.new.arg2) c.args.next.line.now c.args._out.now c.step.result (c.requires.steps.1 _ _ _ _ c.step.ensures)

pub returns-clause-err : goal.returns-clause-err
returns-clause-err g c =
    let shown = g.T.ShowsFollowing.shown in
    λ whole given. took_err (shown c.args.self.now.following) (shown c.step.new.arg2) c.args.next.line.now whole c.step.result given (c.requires.steps.1 _ _ _ _ c.step.ensures)

pub returns-clause-ready : goal.returns-clause-ready
returns-clause-ready g c =
    let shown = g.T.ShowsFollowing.shown in
    took_ready shown c.args.self.now.following c.step.new.arg2 _ _ c.args.next.line.now c.step.result c.requires (c.requires.steps.1 _ _ _ _ c.step.ensures)
