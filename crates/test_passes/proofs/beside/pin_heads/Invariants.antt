use Rattle.std.proofs.Common.{◌≡◌}
use Rattle.jf_store.specs.Passes.{IsPassOf}
use Rattle.test_passes.proofs.beside.pin_heads.Given as goal

abbrev pub invariant-loop : goal.invariant-loop
invariant-loop g l = record { own : IsPassOf l.pass l.fn.store; number : l.pass.number ≡ l.initial.pass.number }
