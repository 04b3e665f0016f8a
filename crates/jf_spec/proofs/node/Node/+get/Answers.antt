use Rattle.std.proofs.Common.{sym, ◌∙◌, ap, Some}
use Rattle.std.specs.Cmp.Lexicographic.{texts_ties}
use Rattle.jf_spec.proofs.Nodes.{find_own, find_ones, find_zeros}
use Rattle.jf_spec.proofs.node.Node.+get.Goals as goal

pub returns-then-eq : goal.returns-then-eq
returns-then-eq t c =
    ap Some (c.as_slice.ensures ∙ ap (λ b. b.value) (c.deref-then-eq.ensures ∙ sym c.deref.ensures))
    ∙ sym (find_own c.args.self.now c.self.inside.depth c.self.inside.form c.in-Leaf.leaf c.deref.result.now c.self.view_is c.in-Leaf.is c.deref.ensures c.args.key.now _ (sym (c.eq.ensures ∙ texts_ties c.args.key.now c.deref.result.now.key) ∙ c.if-eq.true))

pub returns-else-eq : goal.returns-else-eq
returns-else-eq t c =
    sym (find_own c.args.self.now c.self.inside.depth c.self.inside.form c.in-Leaf.leaf c.deref.result.now c.self.view_is c.in-Leaf.is c.deref.ensures c.args.key.now _ (sym (c.eq.ensures ∙ texts_ties c.args.key.now c.deref.result.now.key) ∙ c.if-eq.false))

pub returns-then-bit : goal.returns-then-bit
returns-then-bit t c =
    c.get-then-bit.ensures
    ∙ sym (find_ones c.args.self.now c.self.inside.depth c.self.inside.form c.in-Branch.branch c.deref-then-bit.result.now c.self.view_is c.in-Branch.is c.deref-then-bit.ensures c.args.key.now c.self.invariant (sym c.bit.ensures ∙ c.if-bit.true))

pub returns-else-bit : goal.returns-else-bit
returns-else-bit t c =
    c.get-else-bit.ensures
    ∙ sym (find_zeros c.args.self.now c.self.inside.depth c.self.inside.form c.in-Branch.branch c.deref-else-bit.result.now c.self.view_is c.in-Branch.is c.deref-else-bit.ensures c.args.key.now c.self.invariant (sym c.bit.ensures ∙ c.if-bit.false))
