use Rattle.std.specs.Prelude.{length}
use Rattle.jf_hash.proofs.range.+hash_of.Given as goal

abbrev pub decreases-hash_of : goal.decreases-hash_of
decreases-hash_of l = length l.places.now
