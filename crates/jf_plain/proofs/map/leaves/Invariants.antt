use Rattle.std.proofs.Common.{◌≡◌, take, map}
use Rattle.jf_hash.specs.Roots.{leaf_of}
use Rattle.jf_plain.proofs.map.leaves.Given as goal

abbrev pub invariant-loop-key : goal.invariant-loop-key
invariant-loop-key l = l.leaves.items ≡ map leaf_of (take l.key-index l.entries)
