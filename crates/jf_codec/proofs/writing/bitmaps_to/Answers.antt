-- No sum of bits is above that of all sixteen.
use Rattle.std.proofs.Common.{rules}
use Rattle.jf_codec.proofs.Bits.{bit_fits, leaf_bit_fits}
use Rattle.jf_codec.proofs.writing.bitmaps_to.Goals as goal

pub overflow_add-bits : goal.overflow_add-bits
overflow_add-bits c =
    let below = bit_fits c.args.children.now c.loop-child.child-index c.loop-child.bits.exist _ c.child-item.result c.get.result c.loop-child-test.true c.requires.sorted c.requires.nibbles c.child-item.is c.get.ensures.value c.loop-child.invariant.exist in
    search rules

pub overflow_add-bits-then-child : goal.overflow_add-bits-then-child
overflow_add-bits-then-child c =
    let below = leaf_bit_fits c.args.children.now c.loop-child.child-index c.loop-child.bits.leaf _ c.child-item.result c.get.result c.loop-child-test.true c.requires.sorted c.requires.nibbles c.child-item.is c.get.ensures.value c.if-child.true c.loop-child.invariant.leaf in
    search rules
