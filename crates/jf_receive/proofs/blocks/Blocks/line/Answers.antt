use Rattle.std.proofs.Common.{◌≡◌, inl, subst}
use Rattle.jf_receive.specs.Steps.{Restoring, restoring_after}
use Rattle.jf_receive.proofs.Deciding.{refused_after}
use Rattle.jf_receive.proofs.blocks.Blocks.line.Goals as goal

pub returns-in-Refused-clause-after : goal.returns-in-Refused-clause-after
returns-in-Refused-clause-after c =
    let i = c.self.inside in
    inl (subst (λ (s : Restoring). s ≡ restoring_after s c.args.line.now) c.self.view_is (refused_after i.restore i.at i.stage c.in-Refused.why c.args.line.now c.in-Refused.is))
