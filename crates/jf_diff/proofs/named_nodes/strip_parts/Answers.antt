use Rattle.std.proofs.Common.{◌≡◌, ◌+◌, ◌++◌, refl, ap, sym, ◌∙◌, append_assoc, take, drop}
use Rattle.std.proofs.lemmas.List.{append_cancel_left}
use Rattle.std.specs.List.{flat_map}
use Rattle.jf_codec.specs.declared.format.Format.TheVariants as format
use Rattle.jf_payload.specs.Spelling.{fresh_bytes}
use Rattle.jf_diff.specs.Spelled.{nodes_of}
use Rattle.jf_diff.proofs.PartBytes.{parts_more, parts_split}
use Rattle.jf_diff.proofs.named_nodes.strip_parts.Goals as goal

pub loop-part-preserved : goal.loop-part-preserved
loop-part-preserved c =
    let f = fresh_bytes format.Two in
    let i = c.loop-part.part-index in
    let ps = c.args.parts.now in
    let before = flat_map f (nodes_of (take i ps)) in
    c.loop-part.invariant
    ∙ ap (λ t. before ++ t) (c.in_ok-rest.ensures.found ∙ ap (λ b. b ++ c.in_ok-rest.rest.now) c.as_slice.ensures)
    ∙ sym (append_assoc before (flat_map f c.part-item.result) c.in_ok-rest.rest.now)
    ∙ ap (λ b. b ++ c.in_ok-rest.rest.now) (sym (parts_more f ps i c.part-item.result c.loop-part-test.true c.part-item.is))

pub returns-in_err-rest-clause-none : goal.returns-in_err-rest-clause-none
returns-in_err-rest-clause-none c = λ none tail is.
    let f = fresh_bytes format.Two in
    let i = c.loop-part.part-index in
    let ps = c.args.parts.now in
    let part = c.part-item.result in
    let before = flat_map f (nodes_of (take i ps)) in
    let after = flat_map f (nodes_of (drop (i + 1) ps)) in
    let whole : before ++ c.loop-part.rest.now ≡ before ++ (flat_map f part ++ (after ++ tail)) =
    sym c.loop-part.invariant ∙ is ∙ ap (λ b. b ++ tail) (parts_split f ps i part c.loop-part-test.true c.part-item.is)
    ∙ append_assoc before (flat_map f part ++ after) tail ∙ ap (λ t. before ++ t) (append_assoc (flat_map f part) after tail) in
    c.in_err-rest.ensures.none refl (after ++ tail) (append_cancel_left before _ _ whole ∙ ap (λ b. b ++ (after ++ tail)) (sym c.as_slice.ensures))
