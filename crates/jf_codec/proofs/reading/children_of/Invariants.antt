-- The children read so far and those still to be read are all children, and they rise.
use Rattle.std.proofs.Common.{◌≡◌, ◌-◌}
use Rattle.jf_codec.specs.Reading.{children_at}
use Rattle.jf_codec.proofs.Loop.{with_front, RiseBetween}
use Rattle.jf_codec.proofs.reading.children_of.Given as goal

abbrev pub invariant-loop-i : goal.invariant-loop-i
invariant-loop-i l = record {
  same : with_front l.children (children_at l.format l.bits.exist l.bits.leaf (16 - l.i) l.i l.rest) ≡ children_at l.format l.bits.exist l.bits.leaf 16 0 l.bytes;
  rise : RiseBetween 0 l.i l.children;
}
