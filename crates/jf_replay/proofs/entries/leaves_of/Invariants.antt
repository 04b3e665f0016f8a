use Rattle.std.proofs.Common.{◌≡◌, drop}
use Rattle.jf_replay.specs.Floors.{entries_in}
use Rattle.jf_replay.proofs.entries.leaves_of.Given as goal

-- the tree has the leaves so far, from the last one on
abbrev pub invariant-loop-i : goal.invariant-loop-i
invariant-loop-i l = l.entries.entries ≡ entries_in (drop l.i l.nodes)
