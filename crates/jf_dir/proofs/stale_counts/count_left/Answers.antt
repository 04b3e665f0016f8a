use Rattle.std.proofs.Common.{◌+◌, ◌∙◌, arith, ap, sym, drop, drop-drop, length}
use Rattle.jf_dir.proofs.StaleCounts.{sum-front, sum-next, sum-none}
use Rattle.jf_dir.proofs.stale_counts.count_left.Goals as goal
use Rattle.jf_dir.proofs.stale_counts.count_left.Goals.{in-Some, in_default}

pub overflow_sub-left : goal.overflow_sub-left
overflow_sub-left c =
    let xs = c.args.counts.now.items in
    let k = c.loop.counter in
    let next = sum-next xs k c.in-Some.count c.pop_front.new.self.items (sym c.loop.invariant.items ∙ c.in-Some.ensures.items) in
    omega (arith, c.loop.invariant.left, next, sum-front xs (k + 1) c.args.dropped (omega (arith, c.loop-test.true)), c.requires)

pub loop-preserved : goal.loop-preserved
loop-preserved c =
    let xs = c.args.counts.now.items in
    let k = c.loop.counter in
    record {
      left = elim c.match-pop_front.branch [
        | in-Some w ↦
            let next = sum-next xs k w.in-Some.count c.pop_front.new.self.items (sym c.loop.invariant.items ∙ w.in-Some.ensures.items) in
            omega (arith, w.left-is, c.loop.invariant.left, next, sum-front xs (k + 1) c.args.dropped (omega (arith, c.loop-test.true)), c.requires)
        | in_default w ↦
            let none = sum-none xs k (omega (arith, ap length c.loop.invariant.items, c.loop.counts.ok.0, w.in_default.ensures.cases.0)) in
            omega (arith, w.left-is, c.loop.invariant.left, none)
      ];
      items = c.pop_front.ensures.rest ∙ ap (drop 1) c.loop.invariant.items ∙ drop-drop 1 k xs;
    }
