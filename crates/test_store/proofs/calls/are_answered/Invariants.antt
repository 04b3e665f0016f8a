use Rattle.std.proofs.Common.{◌≡◌}
use Rattle.jf_store.specs.Passes.{IsPassOf}
use Rattle.test_store.proofs.calls.are_answered.Given as goal

abbrev pub invariant-loop-number : goal.invariant-loop-number
invariant-loop-number g l = record { own : IsPassOf l.pass l.fn.store; number : l.pass.number ≡ l.initial.pass.number }
