use Rattle.std.proofs.Common.{◌≡◌, ℕ, ◌<◌, List, get_or, Less}
use Rattle.jf_path.specs.Keys.{key_cmp}
use Rattle.jf_plain.proofs.map.count_below.Given as goal

abbrev pub invariant-loop-i : goal.invariant-loop-i
invariant-loop-i l = (k : ℕ) (d : List ℕ × List ℕ) → k < l.i → key_cmp (get_or l.entries k d).0 l.key ≡ Less
