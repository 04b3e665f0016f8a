use Rattle.std.proofs.Common.{◌*◌, ◌∙◌, ap, sym, map}
use Rattle.jf_hash.specs.Ranges.{kept_hashes}
use Rattle.jf_hash.specs.Roots.{part_root}
use Rattle.jf_hash.specs.Slots.{range_hash, slots_of}
use Rattle.jf_hash.proofs.SlotLaws.{range_hash-all}
use Rattle.jf_node.specs.Children.{entries_of_children, AreChildren, child_slot}
use Rattle.jf_node.proofs.PlaceLaws.{slots-children}
use Rattle.jf_node.proofs.link.Link.inner_counted.Goals as goal

pub over-requires-clause-hashed : goal.over-requires-clause-hashed
over-requires-clause-hashed g c =
    let children : AreChildren c.args.depth c.args.children = record { deep = c.requires.depth; long = c.know.ensures.long; fit = c.requires.children; several = c.requires.plural } in
    c.in_ok-ranges.ensures.ranges
    ∙ ap kept_hashes (ap (map child_slot) c.in_ok-children.ensures ∙ slots-children c.args.depth c.args.children children)
    ∙ ap (λ links. kept_hashes (slots_of c.args.depth (entries_of_children links))) (sym c.in_ok-children.ensures)

pub over-requires-clause-topped : goal.over-requires-clause-topped
over-requires-clause-topped g c =
    let children : AreChildren c.args.depth c.args.children = record { deep = c.requires.depth; long = c.know.ensures.long; fit = c.requires.children; several = c.requires.plural } in
    c.in_ok-ranges.ensures.top
    ∙ ap (range_hash 4) (ap (map child_slot) c.in_ok-children.ensures ∙ slots-children c.args.depth c.args.children children)
    ∙ range_hash-all c.args.depth (entries_of_children c.args.children) c.requires.depth
    ∙ ap (λ links. part_root (4 * c.args.depth) (entries_of_children links)) (sym c.in_ok-children.ensures)
