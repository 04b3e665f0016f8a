use Rattle.std.proofs.Common.{rules, arith, ap, ◌∙◌, ◌<◌, length, true}
use Rattle.std.proofs.lemmas.Result.{on_ok_weaker}
use Rattle.jf_accum.specs.Totals.{left_count}
use Rattle.jf_accum.proofs.TotalLaws.{left-shorter}
use Rattle.jf_accum.proofs.ProvingSteps.{part-left, part-right, extension-whole, extension-up_left, extension-up_right}
use Rattle.jf_accum.proofs.proving.+push_extension.Goals as goal

pub returns-then-old-len : goal.returns-then-old-len
returns-then-old-len t c = extension-whole _ _ _ (c.if-old-len.true ∙ c.len.ensures)

pub push_extension-requires : goal.push_extension-requires
push_extension-requires t c =
    let two : 1 < length c.args.tree.now = omega (arith, c.len.ensures) in
    let count = c.left_count-k.ensures ∙ ap left_count c.len-2.ensures in
    let h : length c.left.result < length c.args.tree.now = left-shorter _ _ two c.left.ensures in
    (search rules, (c.requires.positive, omega (arith, part-left _ _ _ two count c.left.ensures)))

pub returns-in_ok-push_extension : goal.returns-in_ok-push_extension
returns-in_ok-push_extension t c =
    let two : 1 < length c.args.tree.now = omega (arith, c.len.ensures) in
    let count = c.left_count-k.ensures ∙ ap left_count c.len-2.ensures in
    on_ok_weaker c.push.result (λ e. e ∙ extension-up_left _ _ _ _ _ _ true _ two c.requires.positive (omega (arith, count)) c.left.ensures c.right.ensures c.total.ensures c.in_ok-push_extension.ensures) c.push.ensures.ok

pub returns-in_ok-push_rest : goal.returns-in_ok-push_rest
returns-in_ok-push_rest t c =
    let two : 1 < length c.args.tree.now = omega (arith, c.len.ensures) in
    let count = c.left_count-k.ensures ∙ ap left_count c.len-2.ensures in
    on_ok_weaker c.push-else-old-k.result (λ e. e ∙ extension-up_right _ _ _ _ _ _ _ true _ two count (omega arith) (omega (arith, c.len.ensures)) c.left-else-old-k.ensures c.right-else-old-k.ensures c.total-else-old-k.ensures c.in_ok-push_rest.ensures) c.push-else-old-k.ensures.ok

pub push_rest-requires : goal.push_rest-requires
push_rest-requires t c =
    let two : 1 < length c.args.tree.now = omega (arith, c.len.ensures) in
    let count = c.left_count-k.ensures ∙ ap left_count c.len-2.ensures in
    record { positive = omega arith; within = omega (arith, part-right _ _ _ count c.right-else-old-k.ensures) }
