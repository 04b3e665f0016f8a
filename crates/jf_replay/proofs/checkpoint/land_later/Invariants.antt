use Rattle.std.proofs.Common.{◌≡◌, ℕ, ◌+◌, ◌<◌, map}
use Rattle.jf_standing.specs.FormatLaws.{standing_in}
use Rattle.jf_standing.specs.Named.{NamedNode, not_stale, stale_nodes_at}
use Rattle.jf_replay.specs.Cuts.{names_beside, standing_by, standing_listed}
use Rattle.jf_replay.proofs.checkpoint.land_later.Given as goal

-- the versions so far have landed, and the names of the nodes that are stale since a later one are there
abbrev pub invariant-loop-step : goal.invariant-loop-step
invariant-loop-step g l = record {
  begun : standing_in l.format l.directory ≡ standing_by (l.floor + l.step) (standing_listed l.base l.floor l.head l.roots l.nodes);
  names : (w : ℕ) → l.floor + l.step < w → w < not_stale → names_beside w l.by_since.entries ≡ map (λ (n : NamedNode). n.0) (stale_nodes_at w l.nodes);
}
