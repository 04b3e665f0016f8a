-- A space before each word.
use Rattle.std.specs.Prelude.{Some, decimal}
use Rattle.std.proofs.Common.{◌≡◌, ap}
use Rattle.std.proofs.lemmas.Result.{on_ok_weaker}
use Rattle.jf_check.specs.Texts.{number_words}
use Rattle.jf_check.proofs.Words.{four_spaced}
use Rattle.jf_check.proofs.writing.write_numbers.Goals as goal

pub returns : goal.returns
returns c =
    let n = c.in-Some.numbers in
    let e = four_spaced c.args.out.now (decimal n.generation) (decimal n.base) (decimal n.floor) (decimal n.head) in
    let is : number_words c.args.numbers.now ≡ number_words (Some n) = ap number_words c.in-Some.is in
    on_ok_weaker c.write_number-4.result (λ last. cc (e, is, last, c.in_ok-write_number.ensures.ok, c.in_ok-write_number-2.ensures.ok, c.in_ok-write_number-3.ensures.ok)) c.write_number-4.ensures.ok
