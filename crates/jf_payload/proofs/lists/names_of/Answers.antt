-- Each round reads one more name.
use Rattle.std.proofs.Common.{[], Err, ap}
use Rattle.std.proofs.lemmas.Result.{err_from_is_err_and}
use Rattle.jf_path.specs.Names.{are_rising}
use Rattle.jf_payload.specs.Reading.{many_at, named_at}
use Rattle.jf_payload.proofs.Loop.{goes_on, ends, ends_after, is_done}
use Rattle.jf_payload.proofs.lists.names_of.Goals as goal

pub returns-in-Err : goal.returns-in-Err
returns-in-Err c = ends are_rising named_at c.loop.names c.args.count c.loop.counter c.loop.rest.now (many_at are_rising named_at c.args.count [] c.args.bytes.now) c.loop.invariant c.in-Err.fault c.loop-test.true c.in-Err.ensures

pub returns-in_err-push_name-in-Ok : goal.returns-in_err-push_name-in-Ok
returns-in_err-push_name-in-Ok c =
    let p = err_from_is_err_and c.from_residual-in_err-push_name-in-Ok.result c.from_residual-in_err-push_name-in-Ok.ensures.1 in
    rw (p.1, p.2) (ends_after are_rising named_at c.loop.names c.args.count c.loop.counter c.loop.rest.now (many_at are_rising named_at c.args.count [] c.args.bytes.now) c.loop.invariant c.in_err-push_name-in-Ok.field-0.0 c.in-Ok.name c.in-Ok.after.now c.loop-test.true c.in-Ok.ensures (λ is. c.in_err-push_name-in-Ok.ensures.bad (ap Err is)))

pub loop-preserved : goal.loop-preserved
loop-preserved c =
    let pushed = c.in_ok-push_name-in-Ok.ensures.ok in
    rw pushed.1 (goes_on are_rising named_at c.loop.names c.args.count c.loop.counter c.loop.rest.now (many_at are_rising named_at c.args.count [] c.args.bytes.now) c.loop.invariant c.in-Ok.name c.in-Ok.after.now c.loop-test.true c.in-Ok.ensures pushed.0)

pub returns : goal.returns
returns c = is_done are_rising named_at c.loop.names c.args.count c.loop.counter c.loop.rest.now (many_at are_rising named_at c.args.count [] c.args.bytes.now) c.loop.invariant c.loop-test.false
