use Rattle.std.specs.Option.{option_copied}
use Rattle.jf_diff.proofs.GoneLaws.{stale_all, gone_all}
use Rattle.jf_diff.proofs.gone.list_all_nodes.Goals as goal

pub list_gone_under-requires-clause-landed : goal.list_gone_under-requires-clause-landed
list_gone_under-requires-clause-landed c = stale_all c.args.snapshot.now (option_copied c.top-top.result) c.args.since c.know.ensures c.top-top.ensures c.requires.later

pub returns-clause-listed : goal.returns-clause-listed
returns-clause-listed c = gone_all c.args.since c.version.result c.args.snapshot.now (option_copied c.top-top.result) _ _ c.version.ensures c.top-top.ensures c.in_ok-list_gone_under.ensures.listed
