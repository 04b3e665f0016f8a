use Rattle.std.proofs.Common.{◌∙◌}
use Rattle.jf_spec.proofs.Nodes.{zeros_is, ones_is}
use Rattle.jf_spec.proofs.node.Node.halves.Goals as goal

pub returns-in_ok-ones-in-Branch-clause-zeros : goal.returns-in_ok-ones-in-Branch-clause-zeros
returns-in_ok-ones-in-Branch-clause-zeros g c =
    c.in_ok-zeros-in-Branch.ensures ∙ zeros_is c.args.self.now c.self.inside.depth c.self.inside.form c.in-Branch.branch c.deref.result.now c.self.view_is c.in-Branch.is c.deref.ensures c.self.invariant

pub returns-in_ok-ones-in-Branch-clause-ones : goal.returns-in_ok-ones-in-Branch-clause-ones
returns-in_ok-ones-in-Branch-clause-ones g c =
    c.in_ok-ones-in-Branch.ensures ∙ ones_is c.args.self.now c.self.inside.depth c.self.inside.form c.in-Branch.branch c.deref-in-Branch.result.now c.self.view_is c.in-Branch.is c.deref-in-Branch.ensures c.self.invariant
