use Rattle.std.proofs.Common.{◌≡◌, ◌^◌, ◌≤◌, true, false, bytes_eq, decimal, take_all, sym, ap, ◌∙◌, arith}
use Rattle.jf_text.specs.Words.{digits_value}
use Rattle.jf_text.proofs.Numbers.{digits_value-more, number-too_great, number-text, number-other}
use Rattle.jf_text.proofs.number.number_of.Goals as goal

pub returns-in_err-checked_mul : goal.returns-in_err-checked_mul
returns-in_err-checked_mul c =
    let h = digits_value-more c.args.word.now c.loop-digit.digit-index (omega arith) in
    let great : 2 ^ 64 ≤ digits_value c.args.word.now = omega (arith, c.in_err-checked_mul.ensures) in
    c.from_residual.ensures ∙ sym (number-too_great c.args.word.now great)

pub returns-in_err-number : goal.returns-in_err-number
returns-in_err-number c =
    let h = digits_value-more c.args.word.now c.loop-digit.digit-index (omega arith) in
    let great : 2 ^ 64 ≤ digits_value c.args.word.now = omega (arith, c.in_err-number.ensures) in
    c.from_residual-in_err-number.ensures ∙ sym (number-too_great c.args.word.now great)

pub returns-then-eq : goal.returns-then-eq
returns-then-eq c =
    let w = c.args.word.now in
    let n = c.loop-digit.number in
    let read : n ≡ digits_value w = c.loop-digit.invariant.0 ∙ ap digits_value (take_all _ w c.loop-digit-test.false) in
    let text = c.as_bytes.ensures.value ∙ c.format.ensures.text in
    let same : bytes_eq w (decimal n) ≡ true = ap (bytes_eq w) (sym text) ∙ sym c.eq.ensures ∙ c.if-eq.true in
    sym (number-text w n read c.loop-digit.invariant.1 same)

pub returns-else-eq : goal.returns-else-eq
returns-else-eq c =
    let w = c.args.word.now in
    let n = c.loop-digit.number in
    let read : n ≡ digits_value w = c.loop-digit.invariant.0 ∙ ap digits_value (take_all _ w c.loop-digit-test.false) in
    let text = c.as_bytes.ensures.value ∙ c.format.ensures.text in
    let other : bytes_eq w (decimal n) ≡ false = ap (bytes_eq w) (sym text) ∙ sym c.eq.ensures ∙ c.if-eq.false in
    sym (number-other w n read other)
