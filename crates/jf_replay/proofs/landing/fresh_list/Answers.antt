use Rattle.std.specs.Prelude.{IsTrue}
use Rattle.std.proofs.Common.{sym, ap₂, subst, ◌++◌, ◌∷◌, [], map}
use Rattle.jf_path.specs.declared.name.NodeName.{NodeName}
use Rattle.jf_path.specs.declared.node.PlainNode.{PlainNode}
use Rattle.jf_path.specs.Names.{are_rising}
use Rattle.jf_replay.proofs.Fronts.{rising-next}
use Rattle.jf_replay.proofs.landing.fresh_list.Goals as goal

pub push-requires : goal.push-requires
push-requires c =
    subst (λ xs. IsTrue (are_rising (map (λ (x : NodeName × PlainNode). x.0) xs))) (sym (ap₂ (λ xs n. xs ++ (c.node-item.result.0, n) ∷ []) c.loop-node.invariant c.in_ok-copy.ensures))
    (rising-next c.args.nodes.now c.loop-node.node-index _ c.node-item.result c.loop-node-test.true c.node-item.is c.requires)
