use Rattle.std.proofs.Common.{◌≡◌, ◌∙◌, suc, length, sym, ap, arith}
use Rattle.jf_model.specs.Walk.{each_from}
use Rattle.jf_diff.proofs.Walks.{child_entries_none, child_entries_some}
use Rattle.jf_dir.proofs.NodeCounts.{below_at, counted-all, counted-child, counted-none}
use Rattle.jf_dir.proofs.counting.+count_below.Goals as goal
use Rattle.jf_dir.proofs.counting.+count_below.Goals.{in-Some+in_ok-below+in_ok-count, in_default}

pub returns : goal.returns
returns t c =
    let x = c.args.link.now in
    let past = c.loop-n-test.false in
    let end = c.loop-n.auto.n-end in
    let all : c.loop-n.n ≡ 16 = omega arith in
    c.loop-n.invariant ∙ ap (λ n. suc (length (each_from n 0 (below_at x.depth x.entries)))) all ∙ sym (counted-all x.depth x.entries c.know.ensures.inner)

pub loop-n-preserved : goal.loop-n-preserved
loop-n-preserved t c =
    let x = c.args.link.now in
    elim c.match-child_of.branch [
      | in-Some+in_ok-below+in_ok-count w ↦ w.count-is ∙ counted-child x w.in-Some.child.now c.loop-n.n c.loop-n.count w.in_ok-below.below w.in_ok-count.count (child_entries_some x c.of-nibble.result c.loop-n.n c.child_of.result w.in-Some.child c.child_of.ensures w.in-Some.is c.of-nibble.ensures) c.loop-n.invariant w.in_ok-below.ensures w.in_ok-count.ensures
      | in_default w ↦ w.count-is ∙ counted-none x c.loop-n.n c.loop-n.count (child_entries_none x c.of-nibble.result c.loop-n.n c.child_of.result c.child_of.ensures w.in_default.is c.of-nibble.ensures) c.loop-n.invariant
    ]
