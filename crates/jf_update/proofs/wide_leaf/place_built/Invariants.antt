use Rattle.std.proofs.Common.{IfOk, drop}
use Rattle.std.specs.List.{AllZip}
use Rattle.std.specs.Option.{option_copied}
use Rattle.jf_model.specs.Changes.{entries_after_batch}
use Rattle.jf_node.specs.Children.{content}
use Rattle.jf_update.specs.Wide.{IsPieceBuilt}
use Rattle.jf_update.proofs.WideBuildLaws.{IsFilling}
use Rattle.jf_update.proofs.wide_leaf.place_built.Given as goal

abbrev pub invariant-loop-piece : goal.invariant-loop-piece
invariant-loop-piece l =
    let es = content (option_copied l.own) in
    record {
      filling : IsFilling l.depth l.version l.piece-index es (entries_after_batch es l.entries) l.pieces l.children;
      left : AllZip (λ p r. IfOk r (IsPieceBuilt l.depth l.version (entries_after_batch es l.entries) p)) (drop l.piece-index l.pieces) l.built.items;
    }
