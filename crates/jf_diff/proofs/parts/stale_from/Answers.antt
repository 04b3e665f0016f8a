use Rattle.std.proofs.Common.{ap}
use Rattle.std.specs.Option.{option_copied}
use Rattle.jf_diff.proofs.PartLaws.{stale_without, stale_part}
use Rattle.jf_diff.proofs.parts.stale_from.Goals as goal

pub returns-in-None-clause-lists : goal.returns-in-None-clause-lists
returns-in-None-clause-lists g c head over = stale_without head c.args.n (option_copied c.args.old) (option_copied c.args.top) _ (ap option_copied c.in-None.is) c.new-names.ensures.items

pub returns-in_ok-list_stale_at-in-Some-clause-lists : goal.returns-in_ok-list_stale_at-in-Some-clause-lists
returns-in_ok-list_stale_at-in-Some-clause-lists g c head over =
    stale_part head c.args.version c.args.n (option_copied c.args.old) (option_copied c.args.top) c.in-Some.link.now c.empty.result c.new-names.result.items _ (ap option_copied c.in-Some.is) c.requires.old c.empty.ensures c.new-names.ensures.items over c.in_ok-list_stale_at-in-Some.ensures.lists
