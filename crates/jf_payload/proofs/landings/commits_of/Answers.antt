-- Each round reads one more landing.
use Rattle.std.proofs.Common.{[], Err, ap}
use Rattle.std.proofs.lemmas.Result.{err_from_is_err_and}
use Rattle.jf_payload.specs.Spelling.{are_consecutive}
use Rattle.jf_payload.specs.Reading.{many_at, commit_at}
use Rattle.jf_payload.proofs.Loop.{goes_on, ends, ends_after, is_done}
use Rattle.jf_payload.proofs.landings.commits_of.Goals as goal

pub returns-in_err-commit : goal.returns-in_err-commit
returns-in_err-commit c =
    let p = err_from_is_err_and c.from_residual.result c.from_residual.ensures.1 in
    rw (p.1, p.2) (ends are_consecutive (commit_at c.args.format) c.loop.commits c.args.count c.loop.counter c.loop.rest.now (many_at are_consecutive (commit_at c.args.format) c.args.count [] c.args.bytes.now) c.loop.invariant.same c.in_err-commit.field-0.0 c.loop-test.true c.in_err-commit.ensures)

pub returns-in_err-push_commit : goal.returns-in_err-push_commit
returns-in_err-push_commit c =
    let p = err_from_is_err_and c.from_residual-in_err-push_commit.result c.from_residual-in_err-push_commit.ensures.1 in
    rw (p.1, p.2) (ends_after are_consecutive (commit_at c.args.format) c.loop.commits c.args.count c.loop.counter c.loop.rest.now (many_at are_consecutive (commit_at c.args.format) c.args.count [] c.args.bytes.now) c.loop.invariant.same c.in_err-push_commit.field-0.0 c.in_ok-commit.commit c.in_ok-commit.after.now c.loop-test.true c.in_ok-commit.ensures (λ is. c.in_err-push_commit.ensures.bad (ap Err is)))

pub loop-preserved : goal.loop-preserved
loop-preserved c =
    let pushed = c.in_ok-push_commit.ensures.ok in
    record { same = rw pushed.1 (goes_on are_consecutive (commit_at c.args.format) c.loop.commits c.args.count c.loop.counter c.loop.rest.now (many_at are_consecutive (commit_at c.args.format) c.args.count [] c.args.bytes.now) c.loop.invariant.same c.in_ok-commit.commit c.in_ok-commit.after.now c.loop-test.true c.in_ok-commit.ensures pushed.0); passed = rw pushed.1 pushed.0 }

pub returns : goal.returns
returns c = is_done are_consecutive (commit_at c.args.format) c.loop.commits c.args.count c.loop.counter c.loop.rest.now (many_at are_consecutive (commit_at c.args.format) c.args.count [] c.args.bytes.now) c.loop.invariant.same c.loop-test.false
