use Rattle.std.proofs.Common.{◌≤◌, ◌++◌, ◌∷◌, [], map, take, length, codes, decimal}
use Rattle.std.specs.List.{concat}
use Rattle.jf_text.specs.Words.{line_text}
use Rattle.jf_serve.specs.HeldText.{AddsText}
use Rattle.jf_serve.specs.ServedTexts.{entry_line}
use Rattle.jf_serve.proofs.report.write_ledger.Given as goal

abbrev pub invariant-loop-entry : goal.invariant-loop-entry
invariant-loop-entry g l = record {
  added : AddsText (g.K.Sink.text l.initial.sink) (g.K.Sink.text l.sink) l.fn.held l.held (line_text (codes "ledger" ∷ decimal (length l.entries) ∷ []) ++ concat (map entry_line (take l.entry-index l.entries)));
  grows : g.K.Sink.faults l.initial.sink ≤ g.K.Sink.faults l.sink;
}
