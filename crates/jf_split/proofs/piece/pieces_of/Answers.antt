-- Each step adds one more piece, and at the end the front is the whole batch.
use Rattle.std.proofs.Common.{◌<◌, take, get_or, sym, ap, ◌∙◌, subst}
use Rattle.std.specs.List.{AllWithin}
use Rattle.std.proofs.lemmas.List.{get_or_read}
use Rattle.jf_path.specs.Nibbles.{nibble}
use Rattle.jf_split.specs.Pieces.{ArePieces}
use Rattle.jf_split.proofs.PieceSteps.{pieces_more, front_below}
use Rattle.jf_split.proofs.piece.pieces_of.Goals as goal

pub loop-start-preserved : goal.loop-start-preserved
loop-start-preserved c =
    let es = c.args.entries.now in
    let from = c.loop-start.start in
    let found = c.end_of_piece-end.ensures in
    let here = c.nibble_at-nibble.result in
    let low : AllWithin (λ e. nibble e.0 c.args.depth < here) es 0 from = λ k d le lt.
    subst (λ n. nibble (get_or es k d).0 c.args.depth < n)
    (ap (λ e. nibble e.0 c.args.depth) (sym (get_or_read es from c.index-entries-start.result c.loop-start-test.true c.index-entries-start.is (get_or es k d))) ∙ sym c.nibble_at-nibble.ensures)
    (c.loop-start.invariant.below c.loop-start-test.true k d le lt) in
    record {
      within = found.within;
      pieces = subst (ArePieces c.args.depth (take c.end_of_piece-end.result es)) (sym c.in_ok-push.ensures.items)
          (pieces_more c.args.depth es c.loop-start.pieces.items (record { nibble = here; start = from; end = c.end_of_piece-end.result }) c.loop-start.invariant.pieces found.behind found.within low found.nibble);
      below = front_below c.args.depth here es from c.end_of_piece-end.result low found.nibble found.other;
    }
