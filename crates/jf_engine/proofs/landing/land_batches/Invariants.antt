-- The batches before the present one are landed.
use Rattle.std.proofs.Common.{take, drop}
use Rattle.jf_engine.proofs.Landings.{AreLandedSoFar}
use Rattle.jf_engine.proofs.landing.land_batches.Given as goal

abbrev pub invariant-loop-batch : goal.invariant-loop-batch
invariant-loop-batch g l = AreLandedSoFar l.fn.directory (take l.batch-index l.batches) (drop l.batch-index l.batches) l.landings.items l.directory
