use Rattle.std.proofs.Common.{◌≡◌, take}
use Rattle.jf_totals.specs.Texts.{recorded_roots}
use Rattle.jf_totals.proofs.roots.recorded_roots.Given as goal

-- the roots of the versions before the present one were pushed
abbrev pub invariant-loop-i : goal.invariant-loop-i
invariant-loop-i g l = l.roots ≡ take l.i (recorded_roots l.engine.versions)
