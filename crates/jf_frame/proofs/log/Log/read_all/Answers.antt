use Rattle.std.proofs.Common.{◌≤◌, length, subst}
use Rattle.std.specs.List.{All}
use Rattle.jf_frame.specs.Framed.{AreInOrder, IsWithin}
use Rattle.jf_frame.proofs.Order.{order-longer}
use Rattle.jf_frame.proofs.log.Log.read_all.Goals as goal

pub invariant_of-result-2 : goal.invariant_of-result-2
invariant_of-result-2 g c =
    let spans = c.in_ok-spans.spans.items in
    let read = c.deref.result.now in
    let within : c.in_ok-spans.offset ≤ length read = c.in_ok-spans.ensures.within in
    subst (λ bytes. All (IsWithin bytes) spans × AreInOrder 0 spans (length bytes)) c.deref.ensures.value
    (c.in_ok-spans.ensures.spans, order-longer 0 spans c.in_ok-spans.offset (length read) c.in_ok-spans.ensures.ordered within)
