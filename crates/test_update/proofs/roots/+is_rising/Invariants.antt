use Rattle.std.proofs.Common.{length}
use Rattle.test_update.proofs.roots.+is_rising.Given as goal

abbrev pub decreases-is_rising : goal.decreases-is_rising
decreases-is_rising g l = length l.entries.now
