use Rattle.std.proofs.Common.{◌≡◌, ◌++◌, take}
use Rattle.jf_restore.proofs.copies.push_copies.Given as goal

abbrev pub invariant-loop-entry : goal.invariant-loop-entry
invariant-loop-entry l = l.entries ≡ l.fn.entries ++ take l.entry-index l.fresh
