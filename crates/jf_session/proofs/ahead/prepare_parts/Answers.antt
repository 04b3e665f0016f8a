use Rattle.std.proofs.lemmas.Result.{IfOk-weaker}
use Rattle.std.specs.List.{AllByRecursion}
use Rattle.jf_join.proofs.AnswerLaws.{AnswersEach-pairs}
use Rattle.jf_session.specs.PreparedReplies.{ArePreparedFor}
use Rattle.jf_prepare.proofs.Parts.{All-zip}
use Rattle.jf_session.proofs.ahead.prepare_parts.Goals as goal

pub returns : goal.returns
returns g c =
    let m = c.args.head.now.map in
    let n = c.args.seen in
    IfOk-weaker c.join_pieces.result _ (λ parts. AllByRecursion (λ part. ArePreparedFor m n part) parts.items)
    (λ parts answers. All-zip (λ part. ArePreparedFor m n part) _ _ (AnswersEach-pairs answers (λ x part. ArePreparedFor m n part) (λ x part h. h.says.met))) c.join_pieces.ensures
