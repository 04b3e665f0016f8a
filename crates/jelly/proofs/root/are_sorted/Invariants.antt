use Rattle.std.proofs.Common.{take, T}
use Rattle.std.specs.FinMap.{is_sorted}
use Rattle.jf_path.specs.Keys.{key_cmp}
use Rattle.jelly.specs.MapRoots.{leaves_in}
use Rattle.jelly.proofs.root.are_sorted.Given as goal

-- the keys so far rise
abbrev pub invariant-loop-i : goal.invariant-loop-i
invariant-loop-i l = T (is_sorted key_cmp (take l.i (leaves_in l.entries)))
