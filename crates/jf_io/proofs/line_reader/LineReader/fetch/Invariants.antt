use Rattle.std.proofs.Common.{◌≡◌, ℕ, ◌-◌, ◌<◌, ◌≤◌, ◌^◌, List, length}
use Rattle.std.specs.List.{position_or_len}
use Rattle.jf_io.specs.LineReader.{is_line_feed, IsShortened, IsFetched}
use Rattle.jf_io.proofs.line_reader.LineReader.fetch.Given as goal

abbrev pub invariant-loop-self : goal.invariant-loop-self
invariant-loop-self g l = record {
  kept : (text : List ℕ) → IsShortened l.initial.self.limit text l.initial.self.bytes → IsFetched l.initial.self.limit text l.self.bytes (g.S.Source.rest l.initial.source) (g.S.Source.rest l.source);
  limit : l.self.limit ≡ l.initial.self.limit;
  piece : l.self.piece ≡ l.initial.self.piece;
  ready : position_or_len is_line_feed l.initial.self.bytes < length l.initial.self.bytes → (l.self ≡ l.initial.self) × (l.source ≡ l.initial.source);
  grows : g.S.Source.faults l.initial.source ≤ g.S.Source.faults l.source;
}

abbrev pub decreases-loop-self : goal.decreases-loop-self
decreases-loop-self g l = 2 ^ 64 - g.S.Source.given l.source
