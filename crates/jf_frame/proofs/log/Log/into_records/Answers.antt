use Rattle.std.proofs.Common.{◌≡◌, ◌+◌, List, [], ◌∷◌, ◌++◌, length, reverse, sym, ap, ap₂, ◌∙◌, subst, arith, append_assoc, append-nil, length-take-le, refl}
use Rattle.std.proofs.lemmas.List.{reverse-append}
use Rattle.jf_frame.specs.Framed.{record_at_span, all_lying, AreInOrder}
use Rattle.jf_frame.specs.declared.span.Span.{Span}
use Rattle.jf_frame.proofs.Lying.{all_lying-push}
use Rattle.jf_frame.proofs.Order.{lying-front, order-last, order-longer, order-pop}
use Rattle.jf_frame.proofs.log.Log.into_records.Goals as goal

pub loop-span-init : goal.loop-span-init
loop-span-init c = (
  ap (λ rs. all_lying c.self.inside.bytes.items c.self.inside.spans.items ++ reverse rs) c.in_ok-records.ensures.items ∙ append-nil _ ∙ ap (λ l. l.records) c.self.view_is,
  c.self.invariant.1,
)

pub cut_off-requires : goal.cut_off-requires
cut_off-requires c =
    let bytes = c.loop-span.bytes.items in
    let ordered = subst (λ spans. AreInOrder 0 spans (length bytes)) c.in-Some.ensures.items c.loop-span.invariant.1 in
    order-last 0 c.pop.new.self.items (length bytes) c.in-Some.span ordered

pub loop-span-smaller : goal.loop-span-smaller
loop-span-smaller c = (let l = c.in-Some.ensures.len in omega (arith))

pub loop-span-preserved : goal.loop-span-preserved
loop-span-preserved c =
    let bytes = c.loop-span.bytes.items in
    let spans = c.pop.new.self.items in
    let s = c.in-Some.span in
    let r = c.in_ok-cut_off.field-0 in
    let rs = c.loop-span.records.items in
    let ordered = subst (λ spans. AreInOrder 0 spans (length bytes)) c.in-Some.ensures.items c.loop-span.invariant.1 in
    let before = order-pop 0 spans (length bytes) s ordered in
    let ends = order-last 0 spans (length bytes) s ordered in
    let left : all_lying c.cut_off.new.bytes.items spans ≡ all_lying bytes spans =
    ap (λ b. all_lying b spans) c.in_ok-cut_off.ensures.front ∙ lying-front bytes 0 spans (s.offset + 10) (order-longer 0 spans s.offset (s.offset + 10) before (omega (arith))) in
    let cut : reverse c.push.new.self.items ≡ record_at_span bytes s ∷ reverse rs =
    ap reverse c.in_ok-push.ensures.items ∙ reverse-append rs (r ∷ []) ∙ ap (λ x. x ∷ reverse rs) c.in_ok-cut_off.ensures.record in
    let all : all_lying bytes spans ++ record_at_span bytes s ∷ reverse rs ≡ all_lying bytes c.loop-span.spans.items ++ reverse rs =
    sym (append_assoc (all_lying bytes spans) (record_at_span bytes s ∷ []) (reverse rs))
    ∙ ap (λ xs. xs ++ reverse rs) (sym (all_lying-push bytes spans s) ∙ ap (all_lying bytes) (sym c.in-Some.ensures.items)) in
    let size : length c.cut_off.new.bytes.items ≡ s.offset + 10 = ap length c.in_ok-cut_off.ensures.front ∙ length-take-le (s.offset + 10) bytes (omega (arith)) in (
      ap₂ (λ xs ys. xs ++ ys) left cut ∙ all ∙ c.loop-span.invariant.0,
      order-longer 0 spans s.offset (length c.cut_off.new.bytes.items) before (omega (arith, size)),
    )

none_left : (spans : List Span) → length spans ≡ 0 → spans ≡ []
none_left [] none = refl
none_left (s ∷ spans) none = absurd (omega (arith, none))

pub returns : goal.returns
returns c =
    let none : c.loop-span.spans.items ≡ [] = none_left c.loop-span.spans.items (let e = c.in_default.ensures.cases.0 in omega (arith)) in
    c.reverse.ensures.items ∙ sym (ap (λ spans. all_lying c.loop-span.bytes.items spans ++ reverse c.loop-span.records.items) none) ∙ c.loop-span.invariant.0
