-- The record at the present place goes on with the numbers.
use Rattle.std.proofs.Common.{ap, sym, ◌∙◌, drop, ◌+◌}
use Rattle.jf_frame.specs.Framed.{framed_value}
use Rattle.jf_check.specs.Numbers.{numbers_through}
use Rattle.jf_check.proofs.Telling.{go_through}
use Rattle.jf_check.proofs.numbers.numbers_in.Goals as goal

pub loop-place-preserved : goal.loop-place-preserved
loop-place-preserved c =
    let rs = c.args.log.now.records in
    let i = c.loop-place.place in
    ap (λ n. numbers_through n (drop (i + 1) rs)) c.numbers_after-numbers.ensures ∙ sym (go_through c.loop-place.numbers rs i (framed_value c.record-in-loop-place.result) c.record-in-loop-place.ensures) ∙ c.loop-place.invariant
