use Rattle.std.proofs.Common.{arith, ◌≡◌, length, sym, ◌∙◌, subst, IfOk}
use Rattle.std.proofs.lemmas.Result.{IfOk-at_ok}
use Rattle.jf_update.specs.Wide.{IsPieceOutcome}
use Rattle.jf_update.proofs.NodeUpdateLaws.{updating_done, none_changed, some_changed}
use Rattle.jf_update.proofs.WideLaws.{IsPlacing, placing_start, placing_more, placing_done, next_left}
use Rattle.jf_update.proofs.wide.place_all.Goals as goal

pub loop-piece-init : goal.loop-piece-init
loop-piece-init c = record { placing = placing_start c.args.depth c.args.version c.args.children.now _ c.args.entries.now c.args.pieces.now _ c.know.ensures.long c.requires.children c.in_ok-share.ensures c.none.ensures; left = c.requires.outcomes }

pub loop-piece-preserved : goal.loop-piece-preserved
loop-piece-preserved c =
    let h = c.loop-piece.invariant in
    let olds = c.args.children.now in
    let bs = c.args.entries.now in
    let ps = c.args.pieces.now in
    let both = next_left (λ p r. IfOk r (IsPieceOutcome c.args.depth c.args.version olds bs p)) ps c.loop-piece.outcomes.items c.remove.new.self.items c.loop-piece.piece-index c.piece-item.result c.remove.result h.left (omega arith) c.piece-item.is c.remove.ensures.value c.remove.ensures.items in
    record {
      placing = placing_more c.args.depth c.args.version c.loop-piece.piece-index olds c.loop-piece.made c.place.new.made bs ps c.piece-item.result c.in_ok-outcome.outcome c.know.ensures.long c.requires.children c.requires.parts h.placing (omega arith) c.piece-item.is
          (IfOk-at_ok (IsPieceOutcome c.args.depth c.args.version olds bs c.piece-item.result) c.in_ok-outcome.was both.0) c.place.ensures;
      left = both.1;
    }

pub returns-then-has_changed : goal.returns-then-has_changed
returns-then-has_changed c =
    let ps = c.args.pieces.now in
    let made = c.loop-piece.made in
    let e : c.loop-piece.piece-index ≡ length ps = omega arith in
    let w = placing_done c.args.depth c.args.version c.args.children.now made c.args.entries.now ps c.know.ensures.long c.requires.children c.requires.pieces (subst (λ n. IsPlacing c.args.depth c.args.version n c.args.children.now c.args.entries.now ps made.children made.changed) e c.loop-piece.invariant.placing) in (
      updating_done _ _ _ _ _ _ _ w,
      some_changed c.args.depth c.args.version (length c.args.entries.now) c.requires.parts.path c.args.children.now made.children c.args.entries.now made.changed c.know.ensures.long c.requires.children c.requires.parts.entries c.requires.parts.batch w (sym c.has_changed.ensures ∙ c.if-has_changed.true),
    )

pub returns : goal.returns
returns c =
    let ps = c.args.pieces.now in
    let made = c.loop-piece.made in
    let e : c.loop-piece.piece-index ≡ length ps = omega arith in
    let w = placing_done c.args.depth c.args.version c.args.children.now made c.args.entries.now ps c.know.ensures.long c.requires.children c.requires.pieces (subst (λ n. IsPlacing c.args.depth c.args.version n c.args.children.now c.args.entries.now ps made.children made.changed) e c.loop-piece.invariant.placing) in
    none_changed c.args.depth c.args.version (length c.args.entries.now) c.requires.parts.path c.args.children.now made.children c.args.entries.now made.changed c.know.ensures.long c.requires.children c.requires.parts.entries c.requires.parts.batch w (sym c.has_changed.ensures ∙ c.if-has_changed.false)
