use Rattle.std.proofs.Common.{◌≤◌, ◌-◌, length, take, drop, arith, length-take, length-drop}
use Rattle.std.proofs.lemmas.Result.{err_from_is_err_and}
use Rattle.jf_io.proofs.Fronts.{appended_more, is_cut_short}
use Rattle.jf_io.proofs.sink.put_all.Goals as goal

pub loop-done-preserved : goal.loop-done-preserved
loop-done-preserved g c =
    let d = c.loop-done.done in
    let n = c.in_ok-done.field-0 in
    let bytes = c.args.bytes.now in
    let fits : n ≤ length (take (length bytes - d) (drop d bytes)) = c.in_ok-done.ensures.count.1 in
    record {
      within = omega (arith, length-take (length bytes - d) (drop d bytes), length-drop d bytes);
      text = appended_more _ _ _ bytes d n c.loop-done.invariant.text c.in_ok-done.ensures.text;
      grows = omega (arith, c.loop-done.invariant.grows, c.in_ok-done.ensures.counts);
      untouched = λ e. absurd (omega (arith, e, c.in_ok-done.ensures.count.0));
    }

pub returns-in_err-done-clause-cut_short : goal.returns-in_err-done-clause-cut_short
returns-in_err-done-clause-cut_short g c =
    let p = err_from_is_err_and c.from_residual.result c.from_residual.ensures.1 in
    rw p.1 (is_cut_short _ _ _ _ _ c.loop-done-test.true c.loop-done.invariant.text c.in_err-done.ensures.err)
