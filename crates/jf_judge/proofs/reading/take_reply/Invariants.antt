use Rattle.std.proofs.Common.{◌≤◌, ◌-◌, length}
use Rattle.jf_judge.specs.JudgedReplies.{max_reply, HasTaken}
use Rattle.jf_judge.proofs.reading.take_reply.Given as goal

abbrev pub invariant-loop-bytes : goal.invariant-loop-bytes
invariant-loop-bytes g l = record {
  small : length l.bytes.items ≤ max_reply;
  taken : HasTaken (g.S.Source.rest l.initial.source) (g.S.Source.rest l.source) l.bytes.items;
  grows : g.S.Source.faults l.initial.source ≤ g.S.Source.faults l.source;
}

abbrev pub decreases-loop-bytes : goal.decreases-loop-bytes
decreases-loop-bytes g l = max_reply - length l.bytes.items
