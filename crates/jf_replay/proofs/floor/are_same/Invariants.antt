use Rattle.std.proofs.Common.{◌≡◌, drop, map}
use Rattle.std.specs.Cmp.Lexicographic.{pointwise}
use Rattle.jf_replay.specs.Floors.{listed_in, same_listed}
use Rattle.jf_replay.proofs.floor.are_same.Given as goal

-- the lists are equal if the nodes that are left are
abbrev pub invariant-loop-i : goal.invariant-loop-i
invariant-loop-i l = pointwise same_listed (drop l.i l.read) (map (listed_in l.format) (drop l.i l.made)) ≡ pointwise same_listed l.read (map (listed_in l.format) l.made)
