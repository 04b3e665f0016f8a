use Rattle.std.proofs.Common.{◌≡◌, ◌++◌}
use Rattle.jf_split.proofs.pending.copied.Given as goal

-- the changes so far, and those that the iterator still gives, are all
abbrev pub invariant-loop-key : goal.invariant-loop-key
invariant-loop-key l = l.changes.items ++ l.key-iterator ≡ l.entries.entries
