use Rattle.std.proofs.Common.{sym, ◌∙◌}
use Rattle.jf_update.proofs.RemainderLaws.{puts_more}
use Rattle.jf_update.proofs.remainder.first_put.Goals as goal

pub loop-i-preserved : goal.loop-i-preserved
loop-i-preserved c = puts_more c.args.entries.now c.loop-i.i c.index-entries-i.result c.loop-i-test.true c.index-entries-i.is (sym c.is_some.ensures ∙ c.if-is_some.false) c.loop-i.invariant
