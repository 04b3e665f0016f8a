use Rattle.std.proofs.Common.{rules, ◌≡◌, Some, take, take_all, length-set, sym, ap, ◌∙◌, arith}
use Rattle.jf_text.specs.Words.{unhex}
use Rattle.jf_text.proofs.HexText.{unhex-all}
use Rattle.jf_text.proofs.PairText.{ReadsPairs-more}
use Rattle.jf_text.proofs.hexadecimal.unhex_into.Goals as goal

pub pairs-preserved : goal.pairs-preserved
pairs-preserved c = (
  length-set c.pairs.out c.pairs.i _ ∙ c.pairs.invariant.0,
  ReadsPairs-more c.args.word.now c.pairs.out c.pairs.i c.pairs.greatest c.digit_value-high.result c.digit_value-low.result c.max-greatest.result (omega arith) (omega arith)
      (c.digit_value-high.ensures.digit, c.digit_value-high.ensures.other) (c.digit_value-low.ensures.digit, c.digit_value-low.ensures.other) (search rules) (search rules) c.pairs.invariant.1,
)

pub returns-clause-read : goal.returns-clause-read
returns-clause-read c = λ all.
    let whole : take c.pairs.i c.pairs.out ≡ c.pairs.out = take_all c.pairs.i c.pairs.out (omega arith) in
    let read : Some (take c.pairs.i c.pairs.out) ≡ unhex c.args.word.now = unhex-all c.args.word.now (take c.pairs.i c.pairs.out) c.pairs.i (omega arith) (c.pairs.invariant.1.0 (grind (arith, all))) in
    sym read ∙ ap Some whole
