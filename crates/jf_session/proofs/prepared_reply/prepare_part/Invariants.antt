-- each reply so far is that of its line
use Rattle.std.proofs.Common.{length, ◌-◌}
use Rattle.jf_session.specs.PreparedReplies.{ArePreparedFor}
use Rattle.jf_session.proofs.prepared_reply.prepare_part.Given as goal

abbrev pub invariant-loop-start : goal.invariant-loop-start
invariant-loop-start l = ArePreparedFor l.head.map l.seen l.prepared

abbrev pub decreases-loop-start : goal.decreases-loop-start
decreases-loop-start l = length l.part - l.start
