use Rattle.std.proofs.Common.{◌-◌}
use Rattle.jelly.proofs.root.+part_root.Given as goal

-- the number of bits still to come
abbrev pub decreases-part_root : goal.decreases-part_root
decreases-part_root l = 256 - l.depth
