use Rattle.std.proofs.Common.{◌≡◌}
use Rattle.jf_store.specs.Passes.{IsPassOf}
use Rattle.test_store.proofs.faults.are_refused.Given as goal

abbrev pub invariant-loop-call : goal.invariant-loop-call
invariant-loop-call g l = record { own : IsPassOf l.pass l.fn.store; number : l.pass.number ≡ l.initial.pass.number }
