-- the blocks before the present one can be written
use Rattle.std.proofs.Common.{take}
use Rattle.std.specs.List.{AllByRecursion}
use Rattle.jf_lead.specs.Laws.{IsLandingBlock}
use Rattle.jf_session.specs.Telling.{rooted_blocks}
use Rattle.jf_session.proofs.telling.know_blocks.Given as goal

abbrev pub invariant-loop-at : goal.invariant-loop-at
invariant-loop-at l = AllByRecursion IsLandingBlock (rooted_blocks l.version (take l.at l.batches) (take l.at l.roots))
