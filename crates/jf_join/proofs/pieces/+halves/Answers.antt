use Rattle.std.proofs.Common.{◌/◌, length}
use Rattle.std.proofs.lemmas.Result.{IfOk-at_ok}
use Rattle.jf_join.specs.Answers.{AnswersEach}
use Rattle.jf_join.proofs.Halves.{AnswersEach-halves}
use Rattle.jf_join.proofs.pieces.+halves.Goals as goal

pub returns : goal.returns
returns g t c =
    let f = c.args.f.now in
    let xs = c.args.pieces.now in
    let front = c.split_at.result.0.now in
    let back = c.split_at.result.1.now in
    AnswersEach-halves g.F.Fn f xs front back (length xs / 2) c.in_ok-answers.answers.items c.in_ok-rest.rest.items c.append.new.self.items c.split_at.ensures.front c.split_at.ensures.back c.in_ok-append.ensures.items
    (IfOk-at_ok (λ v. AnswersEach g.F.Fn f front v.items) c.in_ok-answers.was c.join-left.ensures.first)
    (IfOk-at_ok (λ v. AnswersEach g.F.Fn f back v.items) c.in_ok-rest.was c.join-left.ensures.second)
