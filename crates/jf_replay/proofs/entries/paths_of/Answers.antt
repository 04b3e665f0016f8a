use Rattle.jf_replay.proofs.KeyOrder.{version_put_at}
use Rattle.jf_replay.proofs.entries.paths_of.Goals as goal

pub loop-i-preserved : goal.loop-i-preserved
loop-i-preserved c = version_put_at c.args.nodes.now c.loop-i.i c.index-nodes-i.result c.loop-i.versions.entries _ c.loop-i-test.true c.loop-i.auto.i c.index-nodes-i.is c.loop-i.invariant c.in_ok-insert.ensures.entries
