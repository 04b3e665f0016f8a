-- The bits gathered so far and those of the children still to come make the whole bitmap.
use Rattle.std.proofs.Common.{◌≡◌, ◌+◌, drop}
use Rattle.jf_codec.specs.Spelling.{bitmap, leaf_children}
use Rattle.jf_codec.proofs.writing.bitmaps_to.Given as goal

abbrev pub invariant-loop-child : goal.invariant-loop-child
invariant-loop-child l = record {
  exist : l.bits.exist + bitmap (drop l.child-index l.children) ≡ bitmap l.children;
  leaf : l.bits.leaf + bitmap (leaf_children (drop l.child-index l.children)) ≡ bitmap (leaf_children l.children);
}
