-- The loop stops at the first bit that differs.
use Rattle.std.proofs.Common.{◌∙◌, sym, rules}
use Rattle.jf_path.proofs.CommonBits.{common_bits-start, common_from-same, common_from-differ, common_from-end}
use Rattle.jf_path.proofs.key.common_bits.Goals as goal

pub loop-i-init : goal.loop-i-init
loop-i-init c = common_bits-start c.args.a.now c.args.b.now

pub loop-i-preserved : goal.loop-i-preserved
loop-i-preserved c = c.loop-i.invariant ∙ common_from-same c.loop-i.i c.args.a.now c.args.b.now c.bit.result c.bit-in-loop-i.result c.loop-i-test.true c.bit.ensures c.bit-in-loop-i.ensures c.if-bit.false

pub returns-then-bit : goal.returns-then-bit
returns-then-bit c = sym (c.loop-i.invariant ∙ common_from-differ c.loop-i.i c.args.a.now c.args.b.now c.bit.result c.bit-in-loop-i.result c.loop-i-test.true c.bit.ensures c.bit-in-loop-i.ensures c.if-bit.true)

pub returns : goal.returns
returns c = sym (c.loop-i.invariant ∙ common_from-end c.loop-i.i c.args.a.now c.args.b.now (search rules))
