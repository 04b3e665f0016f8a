use Rattle.std.proofs.Common.{◌≡◌, ℕ, ◌<◌, get_or, List, Option}
use Rattle.jf_path.specs.Nibbles.{nibble}
use Rattle.test_batch.proofs.pieces.agree.Given as goal

abbrev pub invariant-loop-entry : goal.invariant-loop-entry
invariant-loop-entry l = (k : ℕ) (e : List ℕ × Option (List ℕ)) → k < l.entry-index → (i : ℕ) → i < l.depth → nibble (get_or l.entries 0 e).0 i ≡ nibble (get_or l.entries k e).0 i
