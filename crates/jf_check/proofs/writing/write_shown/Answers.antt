-- A space before each word.
use Rattle.std.specs.Prelude.{decimal}
use Rattle.std.proofs.Common.{◌≡◌, ap}
use Rattle.std.proofs.lemmas.Result.{on_ok_weaker}
use Rattle.jf_check.specs.Texts.{number_words, shown_words}
use Rattle.jf_check.specs.declared.side_check.SideCheck.TheVariants as side_check
use Rattle.jf_check.proofs.Words.{whole_spaced}
use Rattle.jf_check.proofs.writing.write_shown.Goals as goal

pub returns-in_ok-write_number-in-Whole-2 : goal.returns-in_ok-write_number-in-Whole-2
returns-in_ok-write_number-in-Whole-2 c =
    let w = c.in-Whole in
    let e = whole_spaced c.args.out.now (decimal w.size) (decimal w.records) (decimal w.behind) (number_words w.numbers) in
    let is : shown_words c.args.check.now ≡ shown_words (side_check.Whole w.size w.numbers w.records w.behind) = ap shown_words w.is in
    on_ok_weaker c.write_number-in-Whole-3.result (λ last. cc (e, is, last, c.in_ok-write_number-in-Whole.ensures.ok, c.in_ok-write_numbers-in-Whole.ensures, c.in_ok-write_number-in-Whole-2.ensures.ok)) c.write_number-in-Whole-3.ensures.ok
