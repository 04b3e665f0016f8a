use Rattle.std.proofs.Common.{◌≤◌, ◌-◌, length}
use Rattle.jf_serve.specs.SessionScripts.{max_input}
use Rattle.jf_serve.proofs.InputTaken.{IsFrontTaken}
use Rattle.jf_serve.proofs.whole_input.read_to_end.Given as goal

abbrev pub invariant-loop-bytes : goal.invariant-loop-bytes
invariant-loop-bytes g l = record {
  small : length l.bytes.items ≤ max_input;
  taken : IsFrontTaken (g.S.Source.rest l.initial.source) (g.S.Source.rest l.source) l.bytes.items;
  grows : g.S.Source.faults l.initial.source ≤ g.S.Source.faults l.source;
}

abbrev pub decreases-loop-bytes : goal.decreases-loop-bytes
decreases-loop-bytes g l = max_input - length l.bytes.items
