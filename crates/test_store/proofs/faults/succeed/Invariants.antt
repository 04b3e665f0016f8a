use Rattle.std.proofs.Common.{◌≡◌}
use Rattle.jf_store.specs.Passes.{IsPassOf}
use Rattle.test_store.proofs.faults.succeed.Given as goal

abbrev pub invariant-loop-step : goal.invariant-loop-step
invariant-loop-step g l = record { own : IsPassOf l.pass l.fn.store; number : l.pass.number ≡ l.initial.pass.number }
