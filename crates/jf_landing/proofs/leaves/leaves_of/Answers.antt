-- Each round reads one more node.
use Rattle.std.proofs.Common.{◌++◌, ◌+◌, ◌<◌, length, arith, drop}
use Rattle.std.proofs.lemmas.Result.{err_from_is_err_and}
use Rattle.std.specs.List.{flat_map}
use Rattle.jf_path.proofs.ListLaws.{All-by_place}
use Rattle.jf_payload.specs.Spelling.{fresh_bytes}
use Rattle.jf_standing.proofs.Rounds.{next_at_front, one_more_read, no_node}
use Rattle.jf_landing.proofs.Rounds.{alone_at}
use Rattle.jf_landing.proofs.leaves.leaves_of.Goals as goal

pub returns-in_err-rest-clause-spelled : goal.returns-in_err-rest-clause-spelled
returns-in_err-rest-clause-spelled c = λ xs tail count all e.
    let fmt = c.args.format in
    let p = err_from_is_err_and c.from_residual.result c.from_residual.ensures.1 in
    let so = c.loop.invariant.1 xs tail count all e in
    let lt : c.loop.counter < length xs = (let t = c.loop-test.true in omega (arith, t, count)) in
    let is = All-by_place _ xs all c.loop.counter no_node lt in
    rw (p.1, p.2) (c.in_err-rest.ensures.spelled _ (flat_map (fresh_bytes fmt) (drop (c.loop.counter + 1) xs) ++ tail) is.0 is.1 (next_at_front (fresh_bytes fmt) xs no_node tail c.loop.counter c.loop.rest.now so.0 lt))

pub loop-preserved : goal.loop-preserved
loop-preserved c = (
  c.in_ok-rest.ensures.entries c.loop.invariant.0,
  λ xs tail count all e.
      let fmt = c.args.format in
      let so = c.loop.invariant.1 xs tail count all e in
      let lt : c.loop.counter < length xs = (let t = c.loop-test.true in omega (arith, t, count)) in
      let is = All-by_place _ xs all c.loop.counter no_node lt in
      let told = c.in_ok-rest.ensures.spelled _ (flat_map (fresh_bytes fmt) (drop (c.loop.counter + 1) xs) ++ tail) is.0 is.1 (next_at_front (fresh_bytes fmt) xs no_node tail c.loop.counter c.loop.rest.now so.0 lt) in
      (told.0, one_more_read alone_at xs no_node c.loop.counter c.loop.leaves.items so.1 lt _ told.1),
)
