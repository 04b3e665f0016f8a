use Rattle.std.proofs.Common.{◌≡◌, ℕ, ◌<◌, false, get_or}
use Rattle.jf_path.specs.Keys.{bit}
use Rattle.jf_hash.proofs.plain.first_one.Given as goal

-- no entry so far has the bit
abbrev pub invariant-loop-i : goal.invariant-loop-i
invariant-loop-i l = (k : ℕ) (x : _) → k < l.i → bit (get_or l.entries k x).0 l.depth ≡ false
