use Rattle.std.proofs.Common.{◌-◌}
use Rattle.jf_hash.proofs.plain.+part_root.Given as goal

-- the number of bits still to come
abbrev pub decreases-part_root : goal.decreases-part_root
decreases-part_root l = 256 - l.depth
