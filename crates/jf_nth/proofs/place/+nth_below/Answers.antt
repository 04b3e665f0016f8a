use Rattle.std.proofs.Common.{rules, ◌∙◌, arith}
use Rattle.jf_nth.proofs.Places.{slice_get-child, slice_get-behind, child-deeper, behind-child, behind-none}
use Rattle.jf_nth.proofs.place.+nth_below.Goals as goal
use Rattle.jf_nth.proofs.place.+nth_below.Goals.{in-Some+else-left-count, in_default}

pub nth_below-requires : goal.nth_below-requires
nth_below-requires g t c κs within =
    let shows = c.in-Inner.ensures.shows in
    let deeper = child-deeper c.args.link.now c.in-Inner.children.now c.loop-n.n c.in-Some.child.now shows c.loop-n-test.true c.in-Some.ensures.child in
    let deep = shows.children.deep in
    search rules

pub returns-then-left-count-clause-entry : goal.returns-then-left-count-clause-entry
returns-then-left-count-clause-entry g t c =
    c.nth_below.ensures.entry
    ∙ slice_get-child c.args.link.now c.in-Inner.children.now c.loop-n.n c.loop-n.left c.args.place c.in-Some.child.now c.in-Inner.ensures.shows c.loop-n-test.true c.in-Some.ensures.child c.loop-n.invariant.at (omega (arith, c.if-left-count.true, c.count-count.ensures))

pub returns-then-left-count-clause-cost : goal.returns-then-left-count-clause-cost
returns-then-left-count-clause-cost g t c =
    let shows = c.in-Inner.ensures.shows in
    let deeper = child-deeper c.args.link.now c.in-Inner.children.now c.loop-n.n c.in-Some.child.now shows c.loop-n-test.true c.in-Some.ensures.child in
    omega (arith, deeper, shows.children.deep, c.nth_below.ensures.cost, c.look_at.ensures.cost, c.loop-n.invariant.steps, c.loop-n-test.true)

pub loop-n-preserved : goal.loop-n-preserved
loop-n-preserved g t c =
    let i = c.loop-n.invariant in
    let x = c.args.link.now in
    let links = c.in-Inner.children.now in
    record {
      at = elim c.match-look_at.branch [
        | in-Some+else-left-count w ↦ behind-child x links c.loop-n.n c.loop-n.left c.match-look_at.left c.args.place w.in-Some.child.now c.in-Inner.ensures.shows c.loop-n-test.true w.in-Some.ensures.child i.at (omega (arith, w.left-is, w.count-count.ensures, w.if-left-count.false))
        | in_default w ↦ behind-none x links c.loop-n.n c.match-look_at.left c.args.place c.in-Inner.ensures.shows c.loop-n-test.true w.in_default.ensures.child (omega (arith, i.at, w.left-is))
      ];
      steps = omega (arith, c.look_at.ensures.cost, i.steps);
    }

pub returns-after-loop-n-clause-entry : goal.returns-after-loop-n-clause-entry
returns-after-loop-n-clause-entry g t c =
    slice_get-behind c.args.link.now c.in-Inner.children.now c.loop-n.n c.loop-n.left c.args.place c.in-Inner.ensures.shows c.loop-n-test.false c.loop-n.invariant.at
