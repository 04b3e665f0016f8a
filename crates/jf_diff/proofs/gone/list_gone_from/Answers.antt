use Rattle.std.proofs.Common.{ap, ap₂}
use Rattle.std.specs.Option.{option_copied}
use Rattle.jf_diff.proofs.GoneLaws.{gone_none, gone_some}
use Rattle.jf_diff.proofs.PathNames.{name_of_path}
use Rattle.jf_diff.proofs.gone.list_gone_from.Goals as goal

pub returns-in_ok-push-in-None-clause-listed : goal.returns-in_ok-push-in-None-clause-listed
returns-in_ok-push-in-None-clause-listed c =
    gone_none c.args.version c.args.head (option_copied c.args.old) (option_copied c.args.top) _ _ c.top_name.result (ap option_copied c.in-None.is) (ap₂ name_of_path c.top_name.ensures.version c.top_name.ensures.path) c.in_ok-push-in-None.ensures.items

pub returns-in_ok-list_gone-in-Some-clause-listed : goal.returns-in_ok-list_gone-in-Some-clause-listed
returns-in_ok-list_gone-in-Some-clause-listed c =
    gone_some c.args.version c.args.head (option_copied c.args.old) (option_copied c.args.top) c.in-Some.link.now c.empty.result _ _ (ap option_copied c.in-Some.is) c.requires.old c.requires.own c.empty.ensures c.in_ok-list_gone-in-Some.ensures.listed c.requires.landed
