use Rattle.std.proofs.Common.{◌≡◌, inl, subst}
use Rattle.jf_lead.specs.Steps.{LandingReading, reading_after}
use Rattle.jf_lead.proofs.Stages.{refused_after}
use Rattle.jf_lead.proofs.reader.LandingReader.line.Goals as goal

pub returns-in-Refused-clause-after : goal.returns-in-Refused-clause-after
returns-in-Refused-clause-after c =
    let i = c.self.inside in
    inl (subst (λ (s : LandingReading). s ≡ reading_after s c.args.line.now) c.self.view_is (refused_after i.at i.stage c.in-Refused.why c.args.line.now c.in-Refused.is))
