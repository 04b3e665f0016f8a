-- the parts so far end in the text
use Rattle.std.proofs.Common.{◌-◌, ◌≤◌, length}
use Rattle.jf_prepare.proofs.puts.parts_of.Given as goal

abbrev pub invariant-loop-start : goal.invariant-loop-start
invariant-loop-start l = l.start ≤ length l.text

abbrev pub decreases-loop-start : goal.decreases-loop-start
decreases-loop-start l = length l.text - l.start
