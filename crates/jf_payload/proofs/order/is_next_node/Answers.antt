-- The names of nodes rise with one more at the end if it is above the last one.
use Rattle.std.proofs.Common.{sym, ap, ◌∙◌, ◌-◌, length, is_lt}
use Rattle.std.specs.Prelude.{slice_get}
use Rattle.jf_path.specs.declared.name.NodeName.{NodeName}
use Rattle.jf_path.specs.declared.node.PlainNode.{PlainNode}
use Rattle.jf_payload.proofs.Rising.{are_rising-after}
use Rattle.jf_payload.proofs.order.is_next_node.Goals as goal

pub returns : goal.returns
returns c =
    let last = sym (c.in-Some.ensures.value ∙ ap (λ b. slice_get b (length b - 1)) c.as_slice.ensures.value) in
    c.is_lt.ensures ∙ ap is_lt c.cmp.ensures ∙ sym (are_rising-after (λ (x : NodeName × PlainNode). x.0) c.args.item.now c.args.nodes.now c.in-Some.last.now last c.as_slice.ensures.sorted)
