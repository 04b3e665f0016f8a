use Rattle.std.proofs.Common.{sym, subst}
use Rattle.std.specs.List.{AllByRecursion}
use Rattle.jf_join.proofs.AnswerLaws.{AnswersEach-pairs}
use Rattle.jf_prepare.specs.PreparedPuts.{ArePuts}
use Rattle.jf_prepare.proofs.Parts.{All-zip, All-reverse}
use Rattle.jf_prepare.proofs.puts.read_puts.Goals as goal

pub returns : goal.returns
returns g c =
    let all = All-zip ArePuts _ _ (AnswersEach-pairs c.in_ok-lists.ensures (λ x part. ArePuts part) (λ x part h. h.says.met)) in
    subst (AllByRecursion ArePuts) (sym c.reverse.ensures.items) (All-reverse ArePuts _ all)
