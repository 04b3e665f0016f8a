use Rattle.std.proofs.Common.{arith}
use Rattle.std.specs.Fn.{FnReturnsAt}
use Rattle.jf_join.proofs.Zipped.{AllZip-next}
use Rattle.jf_join.proofs.pieces.work_in_order.Goals as goal

pub loop-place-preserved : goal.loop-place-preserved
loop-place-preserved g c =
    rw c.in_ok-push.ensures.items record { each = (AllZip-next (λ x r. FnReturnsAt g.F.Fn c.args.f.now x r) c.args.pieces.now c.loop-place.answers.items c.loop-place.place c.index-pieces-place.result c.answer.result (omega arith) c.index-pieces-place.is c.loop-place.invariant.each c.answer.ensures) }
