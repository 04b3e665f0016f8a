-- The last record ends where all of them end.
use Rattle.std.proofs.Common.{arith}
use Rattle.jf_frame.specs.Framed.{framed_value}
use Rattle.jf_check.proofs.Ends.{end_some}
use Rattle.jf_check.proofs.first.end_of.Goals as goal

pub overflow_add-result : goal.overflow_add-result
overflow_add-result c =
    let e = end_some c.args.log.now.records (framed_value c.record-last.result) _ (omega arith) c.record-last.ensures in
    omega arith

pub overflow_add-result-2 : goal.overflow_add-result-2
overflow_add-result-2 c =
    let e = end_some c.args.log.now.records (framed_value c.record-last.result) _ (omega arith) c.record-last.ensures in
    omega arith

pub returns : goal.returns
returns c =
    let e = end_some c.args.log.now.records (framed_value c.record-last.result) _ (omega arith) c.record-last.ensures in
    omega arith
