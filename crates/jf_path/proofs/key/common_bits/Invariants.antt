-- The keys agree in the bits before the present one.
use Rattle.std.proofs.Common.{◌≡◌, ◌+◌, ◌-◌}
use Rattle.jf_path.specs.Nibbles.{common_from, common_bits}
use Rattle.jf_path.proofs.key.common_bits.Given as goal

abbrev pub invariant-loop-i : goal.invariant-loop-i
invariant-loop-i l = common_bits l.a l.b ≡ l.i + common_from (256 - l.i) l.i l.a l.b
