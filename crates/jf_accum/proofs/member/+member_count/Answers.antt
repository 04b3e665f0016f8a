use Rattle.std.proofs.Common.{arith, sym, ap, ◌∙◌, ◌+◌, ◌-◌, ◌<◌}
use Rattle.jf_accum.specs.Totals.{left_count}
use Rattle.jf_accum.specs.Members.{member_count}
use Rattle.jf_accum.proofs.Counts.{left_count-tells}
use Rattle.jf_accum.proofs.MemberLaws.{member_count-one, member_count-left, member_count-right, member_count-bound}
use Rattle.jf_accum.proofs.member.+member_count.Goals as goal

pub returns-then-len-eq1 : goal.returns-then-len-eq1
returns-then-len-eq1 t c = sym (member_count-one c.args.len c.args.index (omega arith))

pub member_count-requires : goal.member_count-requires
member_count-requires t c =
    let two : 1 < c.args.len = omega arith in
    let tells = left_count-tells c.args.len two in
    let below = tells.below in
    let is = c.left_count-k.ensures in
    (omega arith, c.if-index-k.true)

pub member_count-requires-else-index-k : goal.member_count-requires-else-index-k
member_count-requires-else-index-k t c =
    let two : 1 < c.args.len = omega arith in
    let tells = left_count-tells c.args.len two in
    let some = tells.positive in
    let is = c.left_count-k.ensures in
    (omega arith, omega arith)

pub overflow_add-result : goal.overflow_add-result
overflow_add-result t c =
    let two : 1 < c.args.len = omega arith in
    let tells = left_count-tells c.args.len two in
    let below = tells.below in
    let is = c.left_count-k.ensures in
    let count = c.member_count.ensures in
    omega (arith, member_count-bound c.left_count-k.result c.args.index c.if-index-k.true)

pub overflow_add-result-else-index-k : goal.overflow_add-result-else-index-k
overflow_add-result-else-index-k t c =
    let two : 1 < c.args.len = omega arith in
    let tells = left_count-tells c.args.len two in
    let some = tells.positive in
    let is = c.left_count-k.ensures in
    let count = c.member_count-else-index-k.ensures in
    omega (arith, member_count-bound (c.args.len - c.left_count-k.result) (c.args.index - c.left_count-k.result) (omega arith))

pub returns-then-index-k : goal.returns-then-index-k
returns-then-index-k t c =
    let two : 1 < c.args.len = omega arith in
    let lo : c.args.index < left_count c.args.len = omega (arith, c.left_count-k.ensures) in
    ap (λ n. 1 + n) (c.member_count.ensures ∙ ap (λ k. member_count k c.args.index) c.left_count-k.ensures) ∙ sym (member_count-left c.args.len c.args.index two lo)

pub returns-else-index-k : goal.returns-else-index-k
returns-else-index-k t c =
    let two : 1 < c.args.len = omega arith in
    ap (λ n. 1 + n) (c.member_count-else-index-k.ensures ∙ ap (λ k. member_count (c.args.len - k) (c.args.index - k)) c.left_count-k.ensures)
    ∙ sym (member_count-right c.args.len c.args.index two (omega (arith, c.left_count-k.ensures)))
