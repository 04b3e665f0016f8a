use Rattle.std.proofs.Common.{◌≡◌, ◌∷◌, []}
use Rattle.jf_model.specs.Walk.{each_from}
use Rattle.jf_diff.proofs.wide.nibbles.Given as goal

abbrev pub invariant-loop-n : goal.invariant-loop-n
invariant-loop-n l = l.all.items ≡ each_from l.n 0 (λ m. m ∷ [])
