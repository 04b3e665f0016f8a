-- Each round reads one more hash.
use Rattle.std.proofs.Common.{[], refl}
use Rattle.std.proofs.lemmas.Result.{err_from_is_err_and}
use Rattle.jf_payload.specs.Reading.{many_at, hash_at, any_hashes}
use Rattle.jf_payload.proofs.Loop.{goes_on, ends, is_done}
use Rattle.jf_payload.proofs.lists.hashes_of.Goals as goal

pub returns-in_err-hash : goal.returns-in_err-hash
returns-in_err-hash c =
    let p = err_from_is_err_and c.from_residual-in_err-hash.result c.from_residual-in_err-hash.ensures.1 in
    rw (p.1, p.2) (ends any_hashes hash_at c.loop.hashes c.args.count c.loop.counter c.loop.rest.now (many_at any_hashes hash_at c.args.count [] c.args.bytes.now) c.loop.invariant c.in_err-hash.field-0.0 c.loop-test.true c.in_err-hash.ensures)

pub loop-preserved : goal.loop-preserved
loop-preserved c = rw c.in_ok-push.ensures.ok (goes_on any_hashes hash_at c.loop.hashes c.args.count c.loop.counter c.loop.rest.now (many_at any_hashes hash_at c.args.count [] c.args.bytes.now) c.loop.invariant c.in_ok-hash.hash.now c.in_ok-hash.after.now c.loop-test.true c.in_ok-hash.ensures refl)

pub returns : goal.returns
returns c = is_done any_hashes hash_at c.loop.hashes c.args.count c.loop.counter c.loop.rest.now (many_at any_hashes hash_at c.args.count [] c.args.bytes.now) c.loop.invariant c.loop-test.false
