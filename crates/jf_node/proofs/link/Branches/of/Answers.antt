use Rattle.jf_node.proofs.BranchLaws.{packed_is, packed_sound}
use Rattle.jf_node.proofs.link.Branches.of.Goals as goal

pub invariant_of-result : goal.invariant_of-result
invariant_of-result c =
    packed_sound c.args.children c.places_of_children-there.result c.places_of_leaves-leaves.result c.in_ok-links.links.items c.know.ensures.long c.know.ensures.links c.places_of_children-there.ensures c.places_of_leaves-leaves.ensures
    c.in_ok-links.ensures

pub returns : goal.returns
returns c = packed_is c.args.children c.places_of_children-there.result c.in_ok-links.links.items c.places_of_children-there.ensures c.in_ok-links.ensures
