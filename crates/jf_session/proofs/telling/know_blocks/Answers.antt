use Rattle.std.proofs.Common.{sym, subst}
use Rattle.std.specs.List.{AllByRecursion}
use Rattle.jf_path.proofs.ListLaws.{All-append}
use Rattle.jf_lead.specs.Laws.{IsLandingBlock}
use Rattle.jf_session.proofs.LandedBlocks.{rooted_blocks-more}
use Rattle.jf_session.proofs.telling.know_blocks.Goals as goal

pub loop-at-preserved : goal.loop-at-preserved
loop-at-preserved c = subst (AllByRecursion IsLandingBlock) (sym (rooted_blocks-more c.args.batches.now c.args.roots.now c.args.version c.loop-at.at _ _ c.loop-at-test.true c.requires.long c.index-batches-at.is)) (All-append IsLandingBlock _ _ c.loop-at.invariant (c.know_landing.ensures, tt))
