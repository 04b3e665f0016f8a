use Rattle.std.proofs.Common.{length}
use Rattle.jf_ask.proofs.parts.+sides.Given as goal

abbrev pub decreases-sides : goal.decreases-sides
decreases-sides l = length l.all.now
