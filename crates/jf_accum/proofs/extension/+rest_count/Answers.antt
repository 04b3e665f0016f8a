use Rattle.std.proofs.Common.{arith, sym, ap, ◌∙◌, ◌+◌, ◌-◌, ◌<◌, false}
use Rattle.jf_accum.specs.Totals.{left_count}
use Rattle.jf_accum.specs.Extensions.{extension_count_in}
use Rattle.jf_accum.proofs.Counts.{left_count-tells}
use Rattle.jf_accum.proofs.ExtensionLaws.{extension_count_in-all, extension_count_in-left, extension_count_in-right, extension_count_in-bound}
use Rattle.jf_accum.proofs.extension.+rest_count.Goals as goal

pub returns-then-old-len : goal.returns-then-old-len
returns-then-old-len t c = sym (extension_count_in-all c.args.len c.args.old false c.if-old-len.true)

pub rest_count-requires : goal.rest_count-requires
rest_count-requires t c =
    let two : 1 < c.args.len = omega arith in
    let tells = left_count-tells c.args.len two in
    let below = tells.below in
    let is = c.left_count-k.ensures in
    (omega arith, (c.requires.positive, c.if-old-k.true))

pub overflow_add-result : goal.overflow_add-result
overflow_add-result t c =
    let two : 1 < c.args.len = omega arith in
    let tells = left_count-tells c.args.len two in
    let below = tells.below in
    let is = c.left_count-k.ensures in
    let count = c.rest_count.ensures in
    omega (arith, extension_count_in-bound c.left_count-k.result c.args.old false c.requires.positive c.if-old-k.true)

pub overflow_add-result-else-old-k : goal.overflow_add-result-else-old-k
overflow_add-result-else-old-k t c =
    let two : 1 < c.args.len = omega arith in
    let tells = left_count-tells c.args.len two in
    let some = tells.positive in
    let is = c.left_count-k.ensures in
    let count = c.rest_count-else-old-k.ensures in
    omega (arith, extension_count_in-bound (c.args.len - c.left_count-k.result) (c.args.old - c.left_count-k.result) false (omega arith) (omega arith))

pub returns-then-old-k : goal.returns-then-old-k
returns-then-old-k t c =
    let two : 1 < c.args.len = omega arith in
    ap (λ n. 1 + n) (c.rest_count.ensures ∙ ap (λ k. extension_count_in k c.args.old false) c.left_count-k.ensures)
    ∙ sym (extension_count_in-left c.args.len c.args.old false two c.requires.positive (omega (arith, c.left_count-k.ensures)))

pub returns-else-old-k : goal.returns-else-old-k
returns-else-old-k t c =
    let two : 1 < c.args.len = omega arith in
    let hi : left_count c.args.len < c.args.old = omega (arith, c.left_count-k.ensures) in
    ap (λ n. 1 + n) (c.rest_count-else-old-k.ensures ∙ ap (λ k. extension_count_in (c.args.len - k) (c.args.old - k) false) c.left_count-k.ensures)
    ∙ sym (extension_count_in-right c.args.len c.args.old false two hi (omega arith))

pub rest_count-requires-else-old-k : goal.rest_count-requires-else-old-k
rest_count-requires-else-old-k t c =
    let two : 1 < c.args.len = omega arith in
    let tells = left_count-tells c.args.len two in
    let some = tells.positive in
    let is = c.left_count-k.ensures in
    (omega arith, (omega arith, omega arith))
