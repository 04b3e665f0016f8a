use Rattle.std.proofs.Common.{◌≡◌, ◌≤◌}
use Rattle.jf_input.specs.Feeds.{IsGathered}
use Rattle.jf_input.proofs.Progress.{SoFar}
use Rattle.jf_input.proofs.feeding.feed.Given as goal

-- the lines so far were taken, and what they add written but for what is gathered, which was less than `max_gathered` when the
-- last line was taken
abbrev pub invariant-loop-turn : goal.invariant-loop-turn
invariant-loop-turn g l =
    record {
      ready : g.M.LineMachine.ready l.machine;
      so_far : SoFar g.M.LineMachine.takes g.M.LineMachine.quiet l.fn.machine l.machine (g.S.Source.rest l.fn.source) (g.S.Source.rest l.source) (g.K.Sink.text l.fn.sink) (g.K.Sink.text l.sink) l.reader l.out;
      gathered : IsGathered g.M.LineMachine.takes l.machine l.out;
      piece : l.reader.piece ≡ l.fn.piece;
      source_faults : g.S.Source.faults l.fn.source ≤ g.S.Source.faults l.source;
      sink_faults : g.K.Sink.faults l.fn.sink ≤ g.K.Sink.faults l.sink;
    }
