-- the rest of the way leads from the present hash to the end of the whole way
use Rattle.std.proofs.Common.{◌≡◌, drop}
use Rattle.jf_evidence.specs.Proofs.{climb}
use Rattle.jf_evidence.proofs.climbing.climb.Given as goal

abbrev pub invariant-loop-i : goal.invariant-loop-i
invariant-loop-i l = climb l.key l.hash (drop l.i l.siblings) ≡ climb l.key l.fn.start l.siblings
