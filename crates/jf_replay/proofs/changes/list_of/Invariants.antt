use Rattle.std.proofs.Common.{◌≡◌, ◌++◌}
use Rattle.jf_replay.proofs.changes.list_of.Given as goal

-- the changes so far, and those that the iterator still gives, are all
abbrev pub invariant-loop-key : goal.invariant-loop-key
invariant-loop-key l = l.list.items ++ l.key-iterator ≡ l.fn.changes.entries
