-- the lines so far end in the text
use Rattle.std.proofs.Common.{◌-◌, ◌≤◌, length}
use Rattle.jf_session.proofs.ahead.front_of_reads.Given as goal

abbrev pub invariant-loop-weight : goal.invariant-loop-weight
invariant-loop-weight l = l.end ≤ length l.text

abbrev pub decreases-loop-weight : goal.decreases-loop-weight
decreases-loop-weight l = l.enough - l.weight
