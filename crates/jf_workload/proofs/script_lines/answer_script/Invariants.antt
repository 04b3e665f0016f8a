use Rattle.std.proofs.Common.{length}
use Rattle.jf_workload.proofs.LinesDone.{SoFar}
use Rattle.jf_workload.proofs.script_lines.answer_script.Given as goal

-- the first lines were answered, and their replies counted
abbrev pub invariant-loop-reply : goal.invariant-loop-reply
invariant-loop-reply g l = SoFar l.store l.fn.session.pass l.fn.script l.script l.session l.tally

abbrev pub decreases-loop-reply : goal.decreases-loop-reply
decreases-loop-reply g l = length l.script
