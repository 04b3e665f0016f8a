use Rattle.std.proofs.Common.{◌++◌, ◌∷◌, [], List, ℕ, sym, ap, ◌∙◌}
use Rattle.std.proofs.lemmas.List.{append-nil}
use Rattle.jf_landing.specs.Scanned.{leaf_alone}
use Rattle.jf_replay.proofs.Spelled.{leaf-more, no-leaf}
use Rattle.jf_replay.proofs.changes.leaves_in.Goals as goal
use Rattle.jf_replay.proofs.changes.leaves_in.Goals.{in-Leaf+in_ok-value+in_ok-push, in_default}

pub loop-node-preserved : goal.loop-node-preserved
loop-node-preserved c =
    let old = c.loop-node.leaves.items in
    leaf-more c.args.nodes.now c.loop-node.node-index c.node-item.result old c.match-node.leaves.items c.loop-node-test.true c.node-item.is c.loop-node.invariant (
    elim c.match-node.branch [
      | in-Leaf+in_ok-value+in_ok-push w ↦
          ap (λ v. v.items) w.leaves-is ∙ w.in_ok-push.ensures.items ∙ ap (λ (v : List ℕ). old ++ (w.in-Leaf.key, v) ∷ []) (w.in_ok-value.ensures ∙ w.as_slice.ensures) ∙ ap (λ n. old ++ leaf_alone n) (sym w.in-Leaf.is)
      | in_default w ↦ ap (λ v. v.items) w.leaves-is ∙ sym (ap (λ es. old ++ es) (no-leaf _ w.in_default.not-Leaf) ∙ append-nil old)
    ])
