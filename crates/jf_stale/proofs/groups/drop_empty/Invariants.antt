use Rattle.std.proofs.Common.{◌≡◌, length}
use Rattle.jf_stale.specs.Groups.{AreRisingGroups, marks_in}
use Rattle.jf_stale.proofs.groups.drop_empty.Given as goal

abbrev pub invariant-loop-groups : goal.invariant-loop-groups
invariant-loop-groups l = record { rising : AreRisingGroups l.groups.items; marks : marks_in l.groups.items ≡ marks_in l.fn.groups.items }

abbrev pub decreases-loop-groups : goal.decreases-loop-groups
decreases-loop-groups l = length l.groups.items
