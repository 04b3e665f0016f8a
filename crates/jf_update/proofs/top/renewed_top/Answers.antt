use Rattle.std.proofs.Common.{ap}
use Rattle.std.specs.Option.{option_copied}
use Rattle.jf_update.proofs.TopUpdateLaws.{next_none, next_renewed}
use Rattle.jf_update.proofs.top.renewed_top.Goals as goal

pub returns-in-None : goal.returns-in-None
returns-in-None c bs same = next_none c.args.head (option_copied c.args.old) bs (ap option_copied c.in-None.is) same

pub returns-in_ok-top-in-Some : goal.returns-in_ok-top-in-Some
returns-in_ok-top-in-Some c bs same =
    next_renewed c.args.head (option_copied c.args.old) c.in-Some.link.now c.in_ok-top-in-Some.top bs c.requires.newest (ap option_copied c.in-Some.is) c.requires.old c.know.ensures c.know-in-Some.ensures c.in_ok-top-in-Some.ensures same
