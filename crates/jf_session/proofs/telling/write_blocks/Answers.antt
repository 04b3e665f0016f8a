use Rattle.jf_session.proofs.LandedBlocks.{landings_text-more}
use Rattle.jf_session.proofs.telling.write_blocks.Goals as goal

pub loop-at-preserved : goal.loop-at-preserved
loop-at-preserved c = landings_text-more c.args.batches.now c.args.roots.now c.args.version c.loop-at.at _ _ c.loop-at-test.true c.requires.long c.index-batches-at.is c.args.told.now c.loop-at.told c.write_landing.new.out c.loop-at.invariant c.in_ok-write_landing.ensures.ok
