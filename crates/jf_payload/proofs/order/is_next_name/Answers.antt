-- Names rise with one more at the end if it is above the last one.
use Rattle.std.proofs.Common.{sym, ap, ◌∙◌, ◌-◌, length, is_lt}
use Rattle.std.specs.Prelude.{slice_get}
use Rattle.jf_payload.proofs.Rising.{names-after}
use Rattle.jf_payload.proofs.order.is_next_name.Goals as goal

pub returns : goal.returns
returns c =
    let last = sym (c.in-Some.ensures.value ∙ ap (λ b. slice_get b (length b - 1)) c.as_slice.ensures.value) in
    c.is_lt.ensures ∙ ap is_lt c.cmp.ensures ∙ sym (names-after c.args.name.now c.args.names.now c.in-Some.last.now last c.as_slice.ensures.sorted)
