use Rattle.std.proofs.Common.{◌≡◌, refl, le_refl, ap, ◌∙◌, arith}
use Rattle.jf_io.specs.LineReader.{is_line_feed, ReaderState}
use Rattle.jf_io.proofs.Lines.{nowhere}
use Rattle.jf_io.proofs.Shortened.{is_fetched-none, is_fetched-step, short_is_plain}
use Rattle.jf_io.proofs.line_reader.LineReader.fetch.Goals as goal

pub loop-self-init : goal.loop-self-init
loop-self-init g c = record { kept = λ text s. is_fetched-none _ text _ _ s; limit = refl; piece = refl; ready = λ _. (refl, refl); grows = le_refl _ }

pub shorten-requires : goal.shorten-requires
shorten-requires g c = nowhere is_line_feed _ _ (λ h. let held = c.if-finds_line.ensures.found.1 h in cc) refl

pub take_piece-requires-clause-unfinished : goal.take_piece-requires-clause-unfinished
take_piece-requires-clause-unfinished g c =
    short_is_plain c.finds_line.new.self c.shorten.new.self c.shorten.new.self (nowhere is_line_feed _ _ (λ h. let held = c.if-finds_line.ensures.found.1 h in cc) refl) c.shorten.ensures refl

pub returns-in_err-take_piece-clause-kept : goal.returns-in_err-take_piece-clause-kept
returns-in_err-take_piece-clause-kept g c = λ text s.
    is_fetched-step _ text c.loop-self.self c.finds_line.new.self c.shorten.new.self c.take_piece.new.self _ _ _ (c.loop-self.invariant.kept text s) c.loop-self.invariant.limit c.finds_line.ensures.unchanged
    (nowhere is_line_feed _ _ (λ h. let held = c.if-finds_line.ensures.found.1 h in cc) refl) c.shorten.ensures c.take_piece.ensures.front c.take_piece.ensures.kept

pub returns-in_err-take_piece-clause-unfinished : goal.returns-in_err-take_piece-clause-unfinished
returns-in_err-take_piece-clause-unfinished g c = λ _.
    short_is_plain c.finds_line.new.self c.shorten.new.self c.take_piece.new.self (nowhere is_line_feed _ _ (λ h. let held = c.if-finds_line.ensures.found.1 h in cc) refl) c.shorten.ensures c.in_err-take_piece.ensures.err

pub returns-then-branch-eq0-clause-kept : goal.returns-then-branch-eq0-clause-kept
returns-then-branch-eq0-clause-kept g c = λ text s.
    is_fetched-step _ text c.loop-self.self c.finds_line.new.self c.shorten.new.self c.take_piece.new.self _ _ _ (c.loop-self.invariant.kept text s) c.loop-self.invariant.limit c.finds_line.ensures.unchanged
    (nowhere is_line_feed _ _ (λ h. let held = c.if-finds_line.ensures.found.1 h in cc) refl) c.shorten.ensures c.take_piece.ensures.front c.take_piece.ensures.kept

pub loop-self-preserved : goal.loop-self-preserved
loop-self-preserved g c = record {
  kept = λ text s.
      is_fetched-step _ text c.loop-self.self c.finds_line.new.self c.shorten.new.self c.take_piece.new.self _ _ _ (c.loop-self.invariant.kept text s) c.loop-self.invariant.limit c.finds_line.ensures.unchanged
      (nowhere is_line_feed _ _ (λ h. let held = c.if-finds_line.ensures.found.1 h in cc) refl) c.shorten.ensures c.take_piece.ensures.front c.take_piece.ensures.kept;
  limit = c.take_piece.ensures.limit ∙ ap (λ (h : ReaderState). h.limit) c.shorten.ensures ∙ ap (λ (h : ReaderState). h.limit) c.finds_line.ensures.unchanged ∙ c.loop-self.invariant.limit;
  piece = c.take_piece.ensures.piece ∙ ap (λ (h : ReaderState). h.piece) c.shorten.ensures ∙ ap (λ (h : ReaderState). h.piece) c.finds_line.ensures.unchanged ∙ c.loop-self.invariant.piece;
  ready = λ h.
      let at = c.loop-self.invariant.ready h in
      let is : c.finds_line.new.self ≡ c.args.self.now = c.finds_line.ensures.unchanged ∙ at.0 in
      absurd (let held = c.if-finds_line.ensures.found.1 (rw is h) in cc);
  grows = omega (arith, c.loop-self.invariant.grows, c.take_piece.ensures.counts);
}
