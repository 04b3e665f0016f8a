use Rattle.std.proofs.Common.{◌≡◌, ℕ, ◌<◌, get_or}
use Rattle.jf_path.specs.Nibbles.{nibble}
use Rattle.jf_update.proofs.piece.piece_end.Given as goal

-- the entries so far have the nibble
abbrev pub invariant-loop-i : goal.invariant-loop-i
invariant-loop-i g l = (k : ℕ) (x : _) → k < l.i → nibble (get_or l.items k x).0 l.depth ≡ l.n
