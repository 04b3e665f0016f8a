use Rattle.std.proofs.Common.{length}
use Rattle.test_update.proofs.roots.+is_below.Given as goal

abbrev pub decreases-is_below : goal.decreases-is_below
decreases-is_below g l = length l.entries.now
