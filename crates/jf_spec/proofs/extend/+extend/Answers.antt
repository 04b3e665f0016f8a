use Rattle.std.proofs.Common.{rules, arith, true, false, sym, ap, ap₂, subst}
use Rattle.jf_hash.specs.Parts.{IsFirstOne, HaveBit}
use Rattle.jf_spec.proofs.Extends.{zero_parts, one_parts, zero_bits, one_bits, both_new, steps_both, ok_is, none_applied, only_applied, other_deep, several_deep}
use Rattle.jf_spec.proofs.extend.+extend.Goals as goal

pub extended_node-parted_node-requires : goal.extended_node-parted_node-requires
extended_node-parted_node-requires g t c = λ κs within. (
  search rules,
  (
    search rules,
    (
      other_deep c.args.node.now.depth c.change-item.result c.args.node.now.entries c.args.batch.now (c.is_only.ensures.no c.if-is_only.false) c.requires.parts c.in-len1.len_at_least c.change-item.is,
      (c.in-len1.len_at_least, c.requires.parts),
    ),
  ),
)

pub extended_node-parted_node-requires-in_default : goal.extended_node-parted_node-requires-in_default
extended_node-parted_node-requires-in_default g t c = λ κs within. (
  search rules,
  (search rules, (several_deep c.args.node.now.depth c.args.node.now.entries c.args.batch.now c.requires.parts c.in_default.len_at_least, (omega arith, c.requires.parts))),
)

pub extended_node-returns-in-empty-clause-node : goal.extended_node-returns-in-empty-clause-node
extended_node-returns-in-empty-clause-node g t c =
    ok_is c.share.result c.args.node.now _ (ap (λ es. record { depth = c.args.node.now.depth; entries = es }) (none_applied c.args.node.now.entries c.args.batch.now c.in-empty.len_below)) c.share.ensures

pub extended_node-returns-then-is_only-clause-node : goal.extended_node-returns-then-is_only-clause-node
extended_node-returns-then-is_only-clause-node g t c =
    ok_is c.node_of_change.result _ _
    (ap₂ (λ d es. record { depth = d; entries = es }) c.depth.ensures (only_applied c.change-item.result c.args.node.now.entries c.args.batch.now (c.is_only.ensures.yes c.if-is_only.true) c.in-len1.len_at_least c.in-len1.len_below c.change-item.is))
    c.node_of_change.ensures.node

pub parted_node-extended_node-requires : goal.parted_node-extended_node-requires
parted_node-extended_node-requires g t c = λ κs within.
    let first = subst (λ d. IsFirstOne d c.first_one-at.result c.args.batch.now) c.depth-depth.ensures c.first_one-at.ensures in
    let z = c.in_ok-zeros.ensures.zeros in
    let deep = ap (λ w. w.depth) z in (
      omega (arith, deep, c.decreases, c.requires.depth),
      (
        search rules,
        (omega (arith, deep, c.requires.depth), zero_parts c.args.node.now.depth c.first_one-at.result c.args.node.now.entries c.args.batch.now c.requires.parts first c.in_ok-zeros.field-0.zeros z),
      ),
    )

pub parted_node-extended_node-requires-2 : goal.parted_node-extended_node-requires-2
parted_node-extended_node-requires-2 g t c = λ κs within.
    let first = subst (λ d. IsFirstOne d c.first_one-at.result c.args.batch.now) c.depth-depth.ensures c.first_one-at.ensures in
    let o = c.in_ok-zeros.ensures.ones in
    let deep = ap (λ w. w.depth) o in (
      omega (arith, deep, c.decreases, c.requires.depth),
      (
        search rules,
        (omega (arith, deep, c.requires.depth), one_parts c.args.node.now.depth c.first_one-at.result c.args.node.now.entries c.args.batch.now c.requires.parts first c.in_ok-zeros.field-0.ones o),
      ),
    )

pub parted_node-returns-in_err-ones-clause-cost : goal.parted_node-returns-in_err-ones-clause-cost
parted_node-returns-in_err-ones-clause-cost g t c =
    let first = subst (λ d. IsFirstOne d c.first_one-at.result c.args.batch.now) c.depth-depth.ensures c.first_one-at.ensures in
    let both = steps_both c.args.node.now.depth c.first_one-at.result c.args.node.now.entries c.args.batch.now c.requires.parts first c.in_ok-zeros.field-0.zeros c.in_ok-zeros.field-0.ones _ _ _ _ c.requires.depth c.requires.positive c.in_ok-zeros.ensures.zeros c.in_ok-zeros.ensures.ones c.in_ok-zeros.ensures.cost c.in_ok-zeros-2.ensures.cost c.extended_node-2.ensures.cost in
    omega (arith, both)

pub parted_node-join-requires-clause-zeros : goal.parted_node-join-requires-clause-zeros
parted_node-join-requires-clause-zeros g t c =
    let first = subst (λ d. IsFirstOne d c.first_one-at.result c.args.batch.now) c.depth-depth.ensures c.first_one-at.ensures in
    subst (λ d. HaveBit d false c.in_ok-zeros-2.zeros.entries) (sym c.depth-depth.ensures)
    (zero_bits c.args.node.now.depth c.first_one-at.result c.args.node.now.entries c.args.batch.now c.requires.parts first c.in_ok-zeros.field-0.zeros c.in_ok-zeros-2.zeros c.in_ok-zeros.ensures.zeros c.in_ok-zeros-2.ensures.node)

pub parted_node-join-requires-clause-ones : goal.parted_node-join-requires-clause-ones
parted_node-join-requires-clause-ones g t c =
    let first = subst (λ d. IsFirstOne d c.first_one-at.result c.args.batch.now) c.depth-depth.ensures c.first_one-at.ensures in
    subst (λ d. HaveBit d true c.in_ok-ones.ones.entries) (sym c.depth-depth.ensures)
    (one_bits c.args.node.now.depth c.first_one-at.result c.args.node.now.entries c.args.batch.now c.requires.parts first c.in_ok-zeros.field-0.ones c.in_ok-ones.ones c.in_ok-zeros.ensures.ones c.in_ok-ones.ensures.node)

pub parted_node-returns-clause-node : goal.parted_node-returns-clause-node
parted_node-returns-clause-node g t c =
    let first = subst (λ d. IsFirstOne d c.first_one-at.result c.args.batch.now) c.depth-depth.ensures c.first_one-at.ensures in
    ok_is c.join.result _ _
    (ap₂ (λ d es. record { depth = d; entries = es }) c.depth-depth.ensures
    (both_new c.args.node.now.depth c.first_one-at.result c.args.node.now.entries c.args.batch.now c.requires.parts first c.in_ok-zeros.field-0.zeros c.in_ok-zeros-2.zeros c.in_ok-zeros.field-0.ones c.in_ok-ones.ones c.in_ok-zeros.ensures.zeros c.in_ok-zeros-2.ensures.node c.in_ok-zeros.ensures.ones c.in_ok-ones.ensures.node))
    c.join.ensures.node

pub parted_node-returns-clause-cost : goal.parted_node-returns-clause-cost
parted_node-returns-clause-cost g t c =
    let first = subst (λ d. IsFirstOne d c.first_one-at.result c.args.batch.now) c.depth-depth.ensures c.first_one-at.ensures in
    let both = steps_both c.args.node.now.depth c.first_one-at.result c.args.node.now.entries c.args.batch.now c.requires.parts first c.in_ok-zeros.field-0.zeros c.in_ok-zeros.field-0.ones _ _ _ _ c.requires.depth c.requires.positive c.in_ok-zeros.ensures.zeros c.in_ok-zeros.ensures.ones c.in_ok-zeros.ensures.cost c.in_ok-zeros-2.ensures.cost c.in_ok-ones.ensures.cost in
    omega (arith, both, c.join.ensures.cost)
