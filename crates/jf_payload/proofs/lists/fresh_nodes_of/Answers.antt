-- Each round reads one more node.
use Rattle.std.proofs.Common.{[], Err, ap}
use Rattle.std.proofs.lemmas.Result.{err_from_is_err_and}
use Rattle.jf_payload.specs.Reading.{many_at, fresh_at, fresh_rise}
use Rattle.jf_payload.proofs.Loop.{goes_on, ends, ends_after, is_done}
use Rattle.jf_payload.proofs.lists.fresh_nodes_of.Goals as goal

pub returns-in_err-item : goal.returns-in_err-item
returns-in_err-item c =
    let p = err_from_is_err_and c.from_residual-in_err-item.result c.from_residual-in_err-item.ensures.1 in
    rw (p.1, p.2) (ends fresh_rise (fresh_at c.args.format) c.loop.nodes c.args.count c.loop.counter c.loop.rest.now (many_at fresh_rise (fresh_at c.args.format) c.args.count [] c.args.bytes.now) c.loop.invariant c.in_err-item.field-0.0 c.loop-test.true c.in_err-item.ensures)

pub returns-in_err-push_fresh : goal.returns-in_err-push_fresh
returns-in_err-push_fresh c =
    let p = err_from_is_err_and c.from_residual-in_err-push_fresh.result c.from_residual-in_err-push_fresh.ensures.1 in
    rw (p.1, p.2) (ends_after fresh_rise (fresh_at c.args.format) c.loop.nodes c.args.count c.loop.counter c.loop.rest.now (many_at fresh_rise (fresh_at c.args.format) c.args.count [] c.args.bytes.now) c.loop.invariant c.in_err-push_fresh.field-0.0 c.in_ok-item.item c.in_ok-item.after.now c.loop-test.true c.in_ok-item.ensures (λ is. c.in_err-push_fresh.ensures.bad (ap Err is)))

pub loop-preserved : goal.loop-preserved
loop-preserved c =
    let pushed = c.in_ok-push_fresh.ensures.ok in
    rw pushed.1 (goes_on fresh_rise (fresh_at c.args.format) c.loop.nodes c.args.count c.loop.counter c.loop.rest.now (many_at fresh_rise (fresh_at c.args.format) c.args.count [] c.args.bytes.now) c.loop.invariant c.in_ok-item.item c.in_ok-item.after.now c.loop-test.true c.in_ok-item.ensures pushed.0)

pub returns : goal.returns
returns c = is_done fresh_rise (fresh_at c.args.format) c.loop.nodes c.args.count c.loop.counter c.loop.rest.now (many_at fresh_rise (fresh_at c.args.format) c.args.count [] c.args.bytes.now) c.loop.invariant c.loop-test.false
