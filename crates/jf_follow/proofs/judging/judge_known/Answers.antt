use Rattle.std.proofs.Common.{◌≡◌, rules, sym, subst, ap, ◌∙◌}
use Rattle.jf_model.specs.Versions.{root_of}
use Rattle.jf_follow.specs.Following.{announced_landing}
use Rattle.jf_follow.specs.declared.fault.FollowFault.TheVariants as fault
use Rattle.jf_follow.specs.declared.judging.Judgement.TheVariants as judged
use Rattle.jf_follow.proofs.Judgements.{row_known, row_other}
use Rattle.jf_follow.proofs.judging.judge_known.Goals as goal

pub returns-then-eq-clause-judged : goal.returns-then-eq-clause-judged
returns-then-eq-clause-judged g c =
    let v = c.args.engine.now.versions in
    let b = announced_landing c.args.version c.args.root.now c.args.batch.now in
    let found : c.in-Some.recorded ≡ root_of v c.args.version = search rules in
    let same : c.in-Some.recorded ≡ c.args.root.now = search rules in
    sym (row_known v b c.requires.low c.requires.high (sym found ∙ same))

pub returns-clause-judged : goal.returns-clause-judged
returns-clause-judged g c =
    let v = c.args.engine.now.versions in
    let b = announced_landing c.args.version c.args.root.now c.args.batch.now in
    let found : c.in-Some.recorded ≡ root_of v c.args.version = search rules in
    let differ : c.in-Some.recorded ≡ c.args.root.now → ⊥ = search rules in
    ap (λ r. judged.Refused (fault.Differs c.args.version c.args.root.now r)) found ∙ sym (row_other v b c.requires.low c.requires.high (subst (λ r. r ≡ c.args.root.now → ⊥) found differ))
