use Rattle.std.proofs.Common.{◌≡◌, ℕ, ◌<◌}
use Rattle.jf_path.specs.Nibbles.{nibble}
use Rattle.test_batch.proofs.pieces.begin_alike.Given as goal

abbrev pub invariant-loop-i : goal.invariant-loop-i
invariant-loop-i l = (k : ℕ) → k < l.i → nibble l.a k ≡ nibble l.b k
