use Rattle.std.specs.Prelude.{length}
use Rattle.jf_hash.proofs.places.+first_child_hash.Given as goal

abbrev pub decreases-first_child_hash : goal.decreases-first_child_hash
decreases-first_child_hash l = length l.places.now
