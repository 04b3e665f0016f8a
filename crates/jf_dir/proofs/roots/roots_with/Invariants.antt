-- The roots before the present one are there.
use Rattle.std.proofs.Common.{◌≡◌, take}
use Rattle.jf_dir.proofs.roots.roots_with.Given as goal

abbrev pub invariant-loop-root : goal.invariant-loop-root
invariant-loop-root l = l.roots.items ≡ take l.root-index l.earlier
