use Rattle.std.proofs.Common.{ap}
use Rattle.std.specs.Option.{option_copied}
use Rattle.jf_diff.proofs.PartLaws.{fresh_without, fresh_part}
use Rattle.jf_diff.proofs.parts.fresh_from.Goals as goal

pub returns-in-None-clause-lists : goal.returns-in-None-clause-lists
returns-in-None-clause-lists g c es before under = fresh_without c.args.version c.args.n es (option_copied c.args.top) _ (ap option_copied c.in-None.is) c.new-nodes.ensures

pub returns-in_ok-list_fresh_at-in-Some-clause-lists : goal.returns-in_ok-list_fresh_at-in-Some-clause-lists
returns-in_ok-list_fresh_at-in-Some-clause-lists g c es before under =
    fresh_part c.args.version c.args.n es before (option_copied c.args.top) c.in-Some.link.now c.empty.result c.new-nodes.result _ (ap option_copied c.in-Some.is) c.requires.top c.empty.ensures c.new-nodes.ensures under c.in_ok-list_fresh_at-in-Some.ensures.lists
