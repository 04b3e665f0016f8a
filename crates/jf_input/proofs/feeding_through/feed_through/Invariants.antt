use Rattle.std.proofs.Common.{◌≡◌, ◌≤◌, true}
use Rattle.jf_path.specs.Faults.{HasCause}
use Rattle.jf_input.specs.Feeds.{IsGathered}
use Rattle.jf_input.proofs.ProgressThrough.{ThroughSoFar}
use Rattle.jf_input.proofs.feeding_through.feed_through.Given as goal

-- the lines so far were taken, and what they add put through but for what is gathered, which was less than `max_gathered`
-- when the last line was taken
abbrev pub invariant-loop-turn : goal.invariant-loop-turn
invariant-loop-turn g l =
    record {
      ready : g.M.LineMachine.ready l.machine;
      so_far : ThroughSoFar g.M.LineMachine.takes g.M.LineMachine.quiet l.fn.machine l.machine (g.S.Source.rest l.fn.source) (g.S.Source.rest l.source) l.reader l.out l.is_cut (g.K.Sink.text l.fn.sink) (g.K.Sink.text l.sink);
      gathered : IsGathered g.M.LineMachine.takes l.machine l.out;
      piece : l.reader.piece ≡ l.fn.piece;
      source_faults : g.S.Source.faults l.fn.source ≤ g.S.Source.faults l.source;
      sink_faults : g.K.Sink.faults l.fn.sink ≤ g.K.Sink.faults l.sink;
      cut : l.is_cut ≡ true → HasCause (g.K.Sink.faults l.fn.sink) (g.K.Sink.faults l.sink);
    }
