use Rattle.jf_update.proofs.RemainderLaws.{kept_and_put}
use Rattle.jf_update.proofs.remainder.remainder_of.Goals as goal

pub returns-in-Some-kept-2 : goal.returns-in-Some-kept-2
returns-in-Some-kept-2 c = kept_and_put _ _ c.args.entries.now c.in-Some.i c.in-Some-kept-2.ensures.entry c.in-Some-kept-2.ensures.own.1 c.in-Some.ensures.found
