use Rattle.std.proofs.Common.{◌≡◌, ℕ, ◌<◌, false, get_or}
use Rattle.jf_path.specs.Keys.{bit}
use Rattle.jelly.specs.declared.root.Entry.{Entry}
use Rattle.jelly.proofs.root.first_one.Given as goal

-- no entry so far has the bit
abbrev pub invariant-loop-i : goal.invariant-loop-i
invariant-loop-i l = (k : ℕ) (e : Entry) → k < l.i → bit (get_or l.entries k e).key l.depth ≡ false
