-- Versions rise by one with one more at the end if it is the last one plus one.
use Rattle.std.proofs.Common.{sym, ap, ◌∙◌, ◌-◌, length}
use Rattle.std.specs.Prelude.{slice_get}
use Rattle.jf_payload.proofs.Rising.{follow-after}
use Rattle.jf_payload.proofs.order.is_next_commit.Goals as goal

pub returns : goal.returns
returns c =
    let last = sym (c.in-Some.ensures.value ∙ ap (λ b. slice_get b (length b - 1)) c.as_slice.ensures) in
    c.is_above_by_one.ensures ∙ sym (follow-after c.args.commit.now c.args.commits.now c.in-Some.last.now last c.requires)
