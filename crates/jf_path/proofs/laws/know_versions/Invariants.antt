-- The children before the present one are known.
use Rattle.std.proofs.Common.{◌<◌, ◌^◌, take}
use Rattle.std.specs.List.{AllByRecursion}
use Rattle.jf_path.proofs.laws.know_versions.Given as goal

abbrev pub invariant-loop-child : goal.invariant-loop-child
invariant-loop-child l = AllByRecursion (λ c. c.version < 2 ^ 64) (take l.child-index l.children)
