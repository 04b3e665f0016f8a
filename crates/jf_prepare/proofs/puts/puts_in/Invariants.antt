-- each line so far is a put
use Rattle.std.proofs.Common.{length, ◌-◌}
use Rattle.jf_prepare.specs.PreparedPuts.{ArePuts}
use Rattle.jf_prepare.proofs.puts.puts_in.Given as goal

abbrev pub invariant-loop-start : goal.invariant-loop-start
invariant-loop-start l = ArePuts l.puts

abbrev pub decreases-loop-start : goal.decreases-loop-start
decreases-loop-start l = length l.part - l.start
