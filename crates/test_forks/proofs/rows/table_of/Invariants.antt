use Rattle.std.proofs.Common.{◌≡◌}
use Rattle.jf_forks.specs.Tables.{StandsOver}
use Rattle.test_forks.proofs.rows.table_of.Given as goal

-- the forks so far stand over the head
abbrev pub invariant-loop-i : goal.invariant-loop-i
invariant-loop-i l = (l.table.value.made ≡ l.i) × StandsOver l.head.map l.table.value
