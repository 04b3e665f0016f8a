use Rattle.std.proofs.Common.{◌+◌, subst}
use Rattle.std.specs.Option.{option_copied}
use Rattle.jf_update.specs.Outcomes.{IsOutcome}
use Rattle.jf_update.proofs.TopUpdateLaws.{next_changed}
use Rattle.jf_update.proofs.top.next_top.Goals as goal

pub returns-in-New : goal.returns-in-New
returns-in-New g c = next_changed c.args.head (option_copied c.args.old) c.in-New.top c.args.entries.now c.requires.newest c.know_if.ensures (subst (IsOutcome 0 (c.args.head + 1) (option_copied c.args.old) c.args.entries.now) c.in-New.is c.in_ok-update_wide.ensures)
