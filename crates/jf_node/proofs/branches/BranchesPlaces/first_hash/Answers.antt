use Rattle.std.proofs.Common.{◌∙◌, ap, arith, map, drop}
use Rattle.jf_hash.specs.Slots.{first_child_hash}
use Rattle.jf_node.specs.Children.{child_slot}
use Rattle.jf_node.proofs.BranchSlots.{first-none, first-some}
use Rattle.jf_node.proofs.branches.BranchesPlaces.first_hash.Goals as goal

pub returns-then-first-len : goal.returns-then-first-len
returns-then-first-len c =
    c.hash.ensures
    ∙ first-some c.self.inside.there c.self.inside.leaves c.self.inside.links.items c.args.start c.rank-first.result c.index.result.now _ c.self.invariant c.rank-first.ensures (omega (arith, c.if-first-len.true, c.len.ensures)) c.index.ensures
    ∙ ap (λ xs. first_child_hash (drop c.args.start (map child_slot xs))) c.self.view_is

pub returns-else-first-len : goal.returns-else-first-len
returns-else-first-len c =
    c.empty.ensures
    ∙ first-none c.self.inside.there c.self.inside.leaves c.self.inside.links.items c.args.start c.rank-first.result c.self.invariant c.rank-first.ensures (omega (arith, c.if-first-len.false, c.len.ensures))
    ∙ ap (λ xs. first_child_hash (drop c.args.start (map child_slot xs))) c.self.view_is
