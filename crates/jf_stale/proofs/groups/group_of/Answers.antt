-- A group is put into its gap, and has no names.
use Rattle.jf_stale.proofs.GroupLaws.{rising-made, marks-made}
use Rattle.jf_stale.proofs.groups.group_of.Goals as goal

pub returns-in_ok-insert-in-Err-clause-sorted : goal.returns-in_ok-insert-in-Err-clause-sorted
returns-in_ok-insert-in-Err-clause-sorted c =
    rising-made c.args.groups.now.items c.insert.new.self.items c.in-Err.at c.args.since c.new-group.result c.new-group.ensures c.in_ok-insert-in-Err.ensures.items c.requires c.in-Err.ensures.within c.in-Err.ensures.gap

pub returns-in_ok-insert-in-Err-clause-marks : goal.returns-in_ok-insert-in-Err-clause-marks
returns-in_ok-insert-in-Err-clause-marks c =
    marks-made c.args.groups.now.items c.insert.new.self.items c.in-Err.at c.args.since c.new-group.result c.new-group.ensures c.in_ok-insert-in-Err.ensures.items
