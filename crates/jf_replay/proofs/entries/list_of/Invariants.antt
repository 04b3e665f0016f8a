use Rattle.std.proofs.Common.{◌≡◌, ◌++◌}
use Rattle.jf_replay.proofs.entries.list_of.Given as goal

-- the entries so far, and those that the iterator still gives, are all
abbrev pub invariant-loop-key : goal.invariant-loop-key
invariant-loop-key l = l.list.items ++ l.key-iterator ≡ l.fn.entries.entries
