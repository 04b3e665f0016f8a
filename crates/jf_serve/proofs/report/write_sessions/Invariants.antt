use Rattle.std.proofs.Common.{◌≤◌, map, take}
use Rattle.std.specs.List.{concat}
use Rattle.jf_serve.specs.HeldText.{AddsText}
use Rattle.jf_serve.specs.ServedTexts.{session_text}
use Rattle.jf_serve.proofs.report.write_sessions.Given as goal

abbrev pub invariant-loop-output : goal.invariant-loop-output
invariant-loop-output g l = record {
  added : AddsText (g.K.Sink.text l.initial.sink) (g.K.Sink.text l.sink) l.initial.held l.held (concat (map session_text (take l.output-index l.outputs)));
  grows : g.K.Sink.faults l.initial.sink ≤ g.K.Sink.faults l.sink;
}
