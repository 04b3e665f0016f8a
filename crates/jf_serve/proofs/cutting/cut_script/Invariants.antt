use Rattle.std.proofs.Common.{length, ◌-◌}
use Rattle.jf_serve.proofs.ScriptCuts.{IsBeforeSession}
use Rattle.jf_serve.proofs.cutting.cut_script.Given as goal

abbrev pub invariant-loop-start : goal.invariant-loop-start
invariant-loop-start l = IsBeforeSession l.bytes l.start

abbrev pub decreases-loop-start : goal.decreases-loop-start
decreases-loop-start l = length l.bytes - l.start
