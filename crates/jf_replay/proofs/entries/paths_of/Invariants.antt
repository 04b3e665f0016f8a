use Rattle.std.proofs.Common.{◌≡◌, drop, map}
use Rattle.jf_split.specs.KeyOrder.{in_key_order}
use Rattle.jf_replay.specs.Floors.{path_and_version}
use Rattle.jf_replay.proofs.entries.paths_of.Given as goal

-- the tree has the nodes so far, from the last one on
abbrev pub invariant-loop-i : goal.invariant-loop-i
invariant-loop-i l = l.versions.entries ≡ in_key_order (map path_and_version (drop l.i l.nodes))
