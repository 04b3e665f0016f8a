use Rattle.std.proofs.Common.{◌≡◌, drop, map}
use Rattle.std.specs.Cmp.Lexicographic.{pointwise}
use Rattle.jf_standing.specs.Same.{same_child}
use Rattle.jf_replay.specs.Kept.{child_in_format}
use Rattle.jf_replay.proofs.same.are_same_children.Given as goal

-- the lists are equal if the children that are left are
abbrev pub invariant-loop-i : goal.invariant-loop-i
invariant-loop-i l = pointwise same_child (drop l.i l.read) (map (child_in_format l.format) (drop l.i l.made)) ≡ pointwise same_child l.read (map (child_in_format l.format) l.made)
