use Rattle.std.proofs.Common.{◌∙◌, ap, map}
use Rattle.jf_hash.specs.Slots.{is_occupied}
use Rattle.jf_node.specs.Children.{child_slot}
use Rattle.jf_node.proofs.BranchSlots.{children_there}
use Rattle.jf_node.proofs.branches.BranchesPlaces.children.Goals as goal

pub returns : goal.returns
returns c = children_there c.self.inside.there c.self.inside.leaves c.self.inside.links.items c.self.invariant ∙ ap (λ xs. map is_occupied (map child_slot xs)) c.self.view_is
