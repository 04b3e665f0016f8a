use Rattle.std.proofs.Common.{inr, Ok, subst, rules}
use Rattle.jf_follow.specs.Takes.{TakesBlock}
use Rattle.jf_follow.specs.declared.taken.Taken.{Taken}
use Rattle.jf_follow.proofs.following.take_block.Goals as goal

pub returns-in-Ok-Landed-clause-block : goal.returns-in-Ok-Landed-clause-block
returns-in-Ok-Landed-clause-block g c =
    let e = c.in-Ok-Landed.ensures in
    let took = subst (λ (t : Taken). TakesBlock c.args.block c.args.following.now.follower c.take.new.self (Ok t)) c.in-Ok-Landed.field-0-is e.taken in
    inr (took.0, search rules)
