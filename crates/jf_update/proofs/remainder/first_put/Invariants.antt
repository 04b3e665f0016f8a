use Rattle.std.proofs.Common.{◌≡◌, [], take}
use Rattle.jf_model.specs.Puts.{puts}
use Rattle.jf_update.proofs.remainder.first_put.Given as goal

-- the changes so far put nothing
abbrev pub invariant-loop-i : goal.invariant-loop-i
invariant-loop-i l = puts (take l.i l.entries) ≡ []
