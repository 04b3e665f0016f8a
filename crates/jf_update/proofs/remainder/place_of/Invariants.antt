use Rattle.std.proofs.Common.{◌≡◌, ℕ, ◌<◌, get_or, Less}
use Rattle.jf_path.specs.Keys.{key_cmp}
use Rattle.jf_update.proofs.remainder.place_of.Given as goal

abbrev pub invariant-loop-i : goal.invariant-loop-i
invariant-loop-i l = (k : ℕ) (x : _) → k < l.i → key_cmp (get_or l.entries k x).0 l.key ≡ Less
