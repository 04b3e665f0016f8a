use Rattle.std.proofs.Common.{sym, subst}
use Rattle.jf_spec.specs.Forms.{AreHalves}
use Rattle.jf_spec.specs.declared.node.BranchBody.{BranchBody}
use Rattle.jf_spec.proofs.Nodes.{new_halves}
use Rattle.jf_spec.proofs.node.Node.branch.Goals as goal

pub invariant_of-result : goal.invariant_of-result
invariant_of-result c =
    subst (λ (f : BranchBody). AreHalves c.args.depth f.zeros f.ones f.hash) (sym c.in_ok-branch.ensures.ok)
    (new_halves c.args.depth c.args.zeros c.args.ones c.inner-hash.result c.hash.result c.hash-2.result c.requires.depth c.requires.zeros_depth c.requires.ones_depth c.requires.zeros c.requires.ones c.requires.plural c.hash.ensures c.hash-2.ensures c.inner-hash.ensures)
