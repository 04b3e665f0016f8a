use Rattle.std.proofs.Common.{◌≡◌, map, take}
use Rattle.jf_replay.specs.Cuts.{without_since}
use Rattle.jf_replay.proofs.landing.fresh_list.Given as goal

-- the list has the nodes so far
abbrev pub invariant-loop-node : goal.invariant-loop-node
invariant-loop-node l = l.list ≡ map without_since (take l.node-index l.nodes)
