use Rattle.std.proofs.Common.{◌≡◌, rules, false, Err}
use Rattle.jf_follow.specs.declared.judging.Judgement.TheVariants as judged
use Rattle.jf_follow.specs.Following.{judgement, announced_landing}
use Rattle.jf_follow.proofs.Takings.{refused_so, broken_by}
use Rattle.jf_follow.proofs.follower.Follower.take.Goals as goal

pub returns-in-Refused-clause-broken : goal.returns-in-Refused-clause-broken
returns-in-Refused-clause-broken g c =
    let b = announced_landing c.args.version c.args.root.now c.args.batch.now in
    let old = c.args.self.now in
    let why = c.in-Refused.why in
    let whole : old.broken ≡ false = search rules in
    let is : judgement old.versions b ≡ judged.Refused why = search rules in
    broken_by b old old (Err why) (refused_so why b old whole is)
