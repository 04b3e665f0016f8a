use Rattle.std.proofs.Common.{arith, length, ◌-◌, ap, subst, Some}
use Rattle.std.specs.Option.{option_copied}
use Rattle.jf_node.specs.Snapshots.{IsTopOf}
use Rattle.jf_node.proofs.SnapshotLaws.{len-top}
use Rattle.jf_range.proofs.Visiting.{most-nodes_top}
use Rattle.jf_range.proofs.honest.entries_from.Goals as goal
use Rattle.jf_range.proofs.honest.entries_from.Goals.{in-Some+in_ok-copy_range, in_default}

pub returns-in_err-copy_range-clause-cost : goal.returns-in_err-copy_range-clause-cost
returns-in_err-copy_range-clause-cost g c =
    let long = len-top c.args.snapshot.now (Some c.in-Some.top.now) (subst (IsTopOf c.args.snapshot.now) (ap option_copied c.in-Some.is) c.top.ensures) in
    omega (arith, long, c.copy_range.ensures.cost, most-nodes_top (64 - c.in-Some.top.now.depth) c.args.start c.args.count (length c.in-Some.top.now.entries) (omega arith))

pub returns-clause-cost : goal.returns-clause-cost
returns-clause-cost g c = elim c.match-top.branch [
  | in-Some+in_ok-copy_range w ↦
      (let long = len-top c.args.snapshot.now (Some w.in-Some.top.now) (subst (IsTopOf c.args.snapshot.now) (ap option_copied w.in-Some.is) c.top.ensures) in
      omega (arith, long, w.steps-is, w.copy_range.ensures.cost, most-nodes_top (64 - w.in-Some.top.now.depth) c.args.start c.args.count (length w.in-Some.top.now.entries) (omega arith)))
  | in_default w ↦ omega (arith, w.steps-is)
]
