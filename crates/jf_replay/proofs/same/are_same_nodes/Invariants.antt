use Rattle.std.proofs.Common.{◌≡◌, drop, map}
use Rattle.std.specs.Cmp.Lexicographic.{pointwise}
use Rattle.jf_standing.specs.Same.{same_written}
use Rattle.jf_replay.specs.Kept.{written_in_format}
use Rattle.jf_replay.proofs.same.are_same_nodes.Given as goal

-- the lists are equal if the nodes that are left are
abbrev pub invariant-loop-i : goal.invariant-loop-i
invariant-loop-i l = pointwise same_written (drop l.i l.read) (map (written_in_format l.format) (drop l.i l.made)) ≡ pointwise same_written l.read (map (written_in_format l.format) l.made)
