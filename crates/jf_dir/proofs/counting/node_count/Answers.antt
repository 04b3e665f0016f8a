use Rattle.std.specs.Prelude.{IfOk}
use Rattle.std.proofs.Common.{◌≡◌, subst}
use Rattle.jf_dir.proofs.NodeCounts.{nodes-top, nodes-without}
use Rattle.jf_dir.proofs.counting.node_count.Goals as goal

pub returns-in-None : goal.returns-in-None
returns-in-None c = nodes-without c.args.snapshot.now.map c.in-None.ensures.same

pub returns-in-Some : goal.returns-in-Some
returns-in-Some c = subst (λ k. IfOk c.count_below.result (λ n. n ≡ k)) (nodes-top c.args.snapshot.now.map c.in-Some.link.now.entries c.in-Some.link.now.depth c.in-Some.ensures.same c.in-Some.ensures.top.depth) c.count_below.ensures
