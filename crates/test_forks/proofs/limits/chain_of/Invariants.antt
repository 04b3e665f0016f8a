use Rattle.std.proofs.Common.{◌≡◌}
use Rattle.jf_forks.specs.Tables.{StandsOver}
use Rattle.test_forks.proofs.limits.chain_of.Given as goal

-- the forks so far stand over the head
abbrev pub invariant-loop-id : goal.invariant-loop-id
invariant-loop-id l = (l.table.value.made ≡ l.id) × StandsOver l.head.map l.table.value
