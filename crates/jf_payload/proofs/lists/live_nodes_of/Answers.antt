-- Each round reads one more node.
use Rattle.std.proofs.Common.{[], Err, ap}
use Rattle.std.proofs.lemmas.Result.{err_from_is_err_and}
use Rattle.jf_payload.specs.Reading.{many_at, live_at, live_rise}
use Rattle.jf_payload.proofs.Loop.{goes_on, ends, ends_after, is_done}
use Rattle.jf_payload.proofs.lists.live_nodes_of.Goals as goal

pub returns-in_err-item : goal.returns-in_err-item
returns-in_err-item c =
    let p = err_from_is_err_and c.from_residual-in_err-item.result c.from_residual-in_err-item.ensures.1 in
    rw (p.1, p.2) (ends live_rise (live_at c.args.format) c.loop.nodes c.args.count c.loop.counter c.loop.rest.now (many_at live_rise (live_at c.args.format) c.args.count [] c.args.bytes.now) c.loop.invariant.same c.in_err-item.field-0.0 c.loop-test.true c.in_err-item.ensures)

pub returns-in_err-push_live : goal.returns-in_err-push_live
returns-in_err-push_live c =
    let p = err_from_is_err_and c.from_residual-in_err-push_live.result c.from_residual-in_err-push_live.ensures.1 in
    rw (p.1, p.2) (ends_after live_rise (live_at c.args.format) c.loop.nodes c.args.count c.loop.counter c.loop.rest.now (many_at live_rise (live_at c.args.format) c.args.count [] c.args.bytes.now) c.loop.invariant.same c.in_err-push_live.field-0.0 c.in_ok-item.item c.in_ok-item.after.now c.loop-test.true c.in_ok-item.ensures (λ is. c.in_err-push_live.ensures.bad (ap Err is)))

pub loop-preserved : goal.loop-preserved
loop-preserved c =
    let pushed = c.in_ok-push_live.ensures.ok in
    record { same = rw pushed.1 (goes_on live_rise (live_at c.args.format) c.loop.nodes c.args.count c.loop.counter c.loop.rest.now (many_at live_rise (live_at c.args.format) c.args.count [] c.args.bytes.now) c.loop.invariant.same c.in_ok-item.item c.in_ok-item.after.now c.loop-test.true c.in_ok-item.ensures pushed.0); passed = rw pushed.1 pushed.0 }

pub returns : goal.returns
returns c = is_done live_rise (live_at c.args.format) c.loop.nodes c.args.count c.loop.counter c.loop.rest.now (many_at live_rise (live_at c.args.format) c.args.count [] c.args.bytes.now) c.loop.invariant.same c.loop-test.false
