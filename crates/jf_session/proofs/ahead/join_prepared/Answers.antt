use Rattle.std.proofs.Common.{subst}
use Rattle.std.specs.List.{AllByRecursion}
use Rattle.jf_session.specs.PreparedReplies.{IsPreparedFor, ArePreparedFor}
use Rattle.jf_prepare.proofs.Parts.{All-appended}
use Rattle.jf_session.proofs.ahead.join_prepared.Goals as goal

pub returns-then-is_err : goal.returns-then-is_err
returns-then-is_err c = λ m n all.
    let before = c.loop-part.invariant m n all in
    let here = subst (AllByRecursion (λ part. ArePreparedFor m n part)) c.in-Some.ensures.steps.0 before.1 in
    All-appended (λ r. IsPreparedFor m n r.0 r.1) c.append.result _ _ _ c.append.ensures.ok c.append.ensures.err before.0 here.0

pub loop-part-preserved : goal.loop-part-preserved
loop-part-preserved c = λ m n all.
    let before = c.loop-part.invariant m n all in
    let here = subst (AllByRecursion (λ part. ArePreparedFor m n part)) c.in-Some.ensures.steps.0 before.1 in
    (All-appended (λ r. IsPreparedFor m n r.0 r.1) c.append.result _ _ _ c.append.ensures.ok c.append.ensures.err before.0 here.0, here.1)

pub returns : goal.returns
returns c = λ m n all. (c.loop-part.invariant m n all).0
