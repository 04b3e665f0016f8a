use Rattle.std.proofs.Common.{◌∙◌, ap, map}
use Rattle.jf_hash.specs.Slots.{holds_leaf}
use Rattle.jf_node.specs.Children.{child_slot}
use Rattle.jf_node.proofs.BranchSlots.{leaves_there}
use Rattle.jf_node.proofs.branches.BranchesPlaces.leaves.Goals as goal

pub returns : goal.returns
returns c = leaves_there c.self.inside.there c.self.inside.leaves c.self.inside.links.items c.self.invariant ∙ ap (λ xs. map holds_leaf (map child_slot xs)) c.self.view_is
