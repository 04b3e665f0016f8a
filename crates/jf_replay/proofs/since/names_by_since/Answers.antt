use Rattle.std.specs.Prelude.{IsTrue}
use Rattle.std.proofs.Common.{sym, subst, ◌++◌, ◌∷◌, []}
use Rattle.jf_path.specs.Names.{are_rising}
use Rattle.jf_replay.proofs.Fronts.{stale-rising}
use Rattle.jf_replay.proofs.since.names_by_since.Goals as goal

pub add_name-requires : goal.add_name-requires
add_name-requires c =
    subst (λ xs. IsTrue (are_rising (xs ++ c.node-item.result.0 ∷ []))) (sym (c.loop-node.invariant c.node-item.result.2 c.if-node-lt-NEVER.true))
    (stale-rising c.args.nodes.now c.loop-node.node-index _ c.node-item.result c.loop-node-test.true c.node-item.is c.requires)
