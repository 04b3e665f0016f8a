use Rattle.std.proofs.Common.{arith, sym, ap, ◌∙◌}
use Rattle.jf_follow.specs.Following.{announced_landing}
use Rattle.jf_follow.specs.declared.fault.FollowFault.TheVariants as fault
use Rattle.jf_follow.specs.declared.judging.Judgement.TheVariants as judged
use Rattle.jf_follow.proofs.Judgements.{row_below, row_gap}
use Rattle.jf_follow.proofs.judging.judge.Goals as goal

pub returns-then-version-state-clause-judged : goal.returns-then-version-state-clause-judged
returns-then-version-state-clause-judged g c =
    let v = c.args.engine.now.versions in
    let b = announced_landing c.args.version c.args.root.now c.args.batch.now in
    let base = c.state-state.ensures.versions.0 in
    let low = c.if-version-state.true in
    λ other. ap (λ n. judged.Refused (fault.Below n)) base ∙ sym (row_below v b (omega (arith, base, low)))

pub returns-then-version-state-3-clause-judged : goal.returns-then-version-state-3-clause-judged
returns-then-version-state-3-clause-judged g c =
    let v = c.args.engine.now.versions in
    let b = announced_landing c.args.version c.args.root.now c.args.batch.now in
    let head = c.state-state.ensures.versions.2 in
    let sound = c.know.ensures.sound in
    let base = sound.base_first in
    let floor = sound.floor_first in
    let far = c.if-version-state-3.true in
    let above = c.if-version-state-2.false in
    λ other. ap (λ n. judged.Refused (fault.Gap n)) head ∙ sym (row_gap v b (omega (arith, base, floor)) (omega (arith, head, far, above)))
