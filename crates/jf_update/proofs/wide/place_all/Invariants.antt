use Rattle.std.proofs.Common.{IfOk, drop}
use Rattle.std.specs.List.{AllZip}
use Rattle.jf_update.specs.Wide.{IsPieceOutcome}
use Rattle.jf_update.proofs.WideLaws.{IsPlacing}
use Rattle.jf_update.proofs.wide.place_all.Given as goal

abbrev pub invariant-loop-piece : goal.invariant-loop-piece
invariant-loop-piece l = record {
  placing : IsPlacing l.depth l.version l.piece-index l.children l.entries l.pieces l.made.children l.made.changed;
  left : AllZip (λ p r. IfOk r (IsPieceOutcome l.depth l.version l.children l.entries p)) (drop l.piece-index l.pieces) l.outcomes.items;
}
