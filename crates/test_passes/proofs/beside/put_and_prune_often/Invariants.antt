use Rattle.std.proofs.Common.{◌≡◌}
use Rattle.jf_store.specs.Passes.{IsPassOf}
use Rattle.test_passes.proofs.beside.put_and_prune_often.Given as goal

abbrev pub invariant-loop-byte : goal.invariant-loop-byte
invariant-loop-byte g l = record { own : IsPassOf l.pass l.fn.store; number : l.pass.number ≡ l.initial.pass.number }
