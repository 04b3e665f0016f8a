use Rattle.std.proofs.Common.{◌≡◌, true, take}
use Rattle.std.specs.List.{list_all}
use Rattle.jf_replay.specs.Cuts.{has_numbers}
use Rattle.jf_replay.proofs.numbers.have_numbers.Given as goal

-- the nodes so far pass
abbrev pub invariant-loop-node : goal.invariant-loop-node
invariant-loop-node l = list_all (has_numbers l.floor l.head) (take l.node-index l.nodes) ≡ true
