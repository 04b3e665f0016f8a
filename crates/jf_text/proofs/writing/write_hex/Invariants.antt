use Rattle.std.proofs.Common.{◌≡◌, ◌++◌, ◌-◌, ◌≤◌, length, take}
use Rattle.hex.specs.Hex.{encode_lower}
use Rattle.jf_text.proofs.writing.write_hex.Given as goal

abbrev pub decreases-parts : goal.decreases-parts
decreases-parts l = length l.bytes - l.start

abbrev pub invariant-parts : goal.invariant-parts
invariant-parts l = (l.out ≡ l.initial.out ++ encode_lower (take l.start l.bytes)) × (l.start ≤ length l.bytes)
