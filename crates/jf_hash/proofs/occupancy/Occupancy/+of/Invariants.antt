use Rattle.std.specs.Prelude.{length}
use Rattle.jf_hash.proofs.occupancy.Occupancy.+of.Given as goal

abbrev pub decreases-of : goal.decreases-of
decreases-of l = length l.places.now
