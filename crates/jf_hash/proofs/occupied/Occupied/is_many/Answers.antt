use Rattle.std.proofs.Common.{take, drop}
use Rattle.std.proofs.Common.{refl}
use Rattle.jf_hash.specs.Slots.{occupants}
use Rattle.jf_hash.proofs.OccupiedLaws.{counts_in, many_children, one_child, no_child}
use Rattle.jf_hash.proofs.occupied.Occupied.is_many.Goals as goal

pub returns-then-children-gt1 : goal.returns-then-children-gt1
returns-then-children-gt1 c slots children leaves =
    many_children (occupants (take c.args.width (drop c.args.start slots))) _ _
    (counts_in c.args.start c.args.width c.count-children.result _ c.args.self.now.children c.args.self.now.leaves slots children leaves c.count-children.ensures refl) c.if-children-gt1.true

pub returns-then-children-eq1 : goal.returns-then-children-eq1
returns-then-children-eq1 c slots children leaves =
    one_child (occupants (take c.args.width (drop c.args.start slots))) _ _
    (counts_in c.args.start c.args.width c.count-children.result c.count.result c.args.self.now.children c.args.self.now.leaves slots children leaves c.count-children.ensures c.count.ensures) c.if-children-eq1.true

pub returns-else-children-eq1 : goal.returns-else-children-eq1
returns-else-children-eq1 c slots children leaves =
    no_child (occupants (take c.args.width (drop c.args.start slots))) _ _
    (counts_in c.args.start c.args.width c.count-children.result _ c.args.self.now.children c.args.self.now.leaves slots children leaves c.count-children.ensures refl) c.if-children-gt1.false c.if-children-eq1.false
