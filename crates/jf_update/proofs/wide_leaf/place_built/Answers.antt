use Rattle.std.proofs.Common.{arith, ◌≡◌, length, subst, IfOk}
use Rattle.std.proofs.lemmas.Result.{IfOk-at_ok}
use Rattle.std.specs.Option.{option_copied}
use Rattle.jf_model.specs.Changes.{entries_after_batch}
use Rattle.jf_node.specs.Children.{content}
use Rattle.jf_update.specs.Wide.{IsPieceBuilt}
use Rattle.jf_update.proofs.WideLaws.{next_left}
use Rattle.jf_update.proofs.WideBuildLaws.{IsFilling, filling_start, filling_more, filling_done}
use Rattle.jf_update.proofs.wide_leaf.place_built.Goals as goal

pub loop-piece-init : goal.loop-piece-init
loop-piece-init c =
    let es = content (option_copied c.args.own) in
    record { filling = filling_start c.args.depth c.args.version es (entries_after_batch es c.args.entries.now) c.args.pieces.now c.in_ok-children.children c.in_ok-children.ensures; left = c.requires.built }

pub loop-piece-preserved : goal.loop-piece-preserved
loop-piece-preserved c =
    let h = c.loop-piece.invariant in
    let es = content (option_copied c.args.own) in
    let now = entries_after_batch es c.args.entries.now in
    let ps = c.args.pieces.now in
    let both = next_left (λ p r. IfOk r (IsPieceBuilt c.args.depth c.args.version now p)) ps c.loop-piece.built.items c.remove.new.self.items c.loop-piece.piece-index c.piece-item.result c.remove.result h.left (omega arith) c.piece-item.is c.remove.ensures.value c.remove.ensures.items in
    record {
      filling = filling_more c.args.depth c.args.version c.loop-piece.piece-index es now ps c.piece-item.result c.in_ok-child.child c.loop-piece.children c.set.new.self h.filling (omega arith) c.piece-item.is
          (IfOk-at_ok (IsPieceBuilt c.args.depth c.args.version now c.piece-item.result) c.in_ok-child.was both.0) c.set.ensures;
      left = both.1;
    }

pub returns : goal.returns
returns c =
    let es = content (option_copied c.args.own) in
    let bs = c.args.entries.now in
    let ps = c.args.pieces.now in
    let e : c.loop-piece.piece-index ≡ length ps = omega arith in
    filling_done c.args.depth c.args.version es bs ps c.loop-piece.children c.requires.parts.entries.sorted c.requires.pieces (subst (λ n. IsFilling c.args.depth c.args.version n es (entries_after_batch es bs) ps c.loop-piece.children) e c.loop-piece.invariant.filling)
