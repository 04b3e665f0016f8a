use Rattle.std.proofs.Common.{◌≡◌, ℕ, ◌<◌, map, take}
use Rattle.jf_standing.specs.Named.{NamedNode, not_stale, stale_nodes_at}
use Rattle.jf_replay.specs.Cuts.{names_beside}
use Rattle.jf_replay.proofs.since.names_by_since.Given as goal

-- beside each version stand the names of the nodes so far that are stale since then
abbrev pub invariant-loop-node : goal.invariant-loop-node
invariant-loop-node l = (w : ℕ) → w < not_stale → names_beside w l.by_since.entries ≡ map (λ (n : NamedNode). n.0) (stale_nodes_at w (take l.node-index l.nodes))
