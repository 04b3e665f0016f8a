use Rattle.std.proofs.Common.{◌≡◌, ◌+◌, ◌≤◌, sym, subst, length, ap, arith}
use Rattle.std.specs.List.{position_or_len}
use Rattle.jf_io.specs.LineReader.{ReaderState, is_line_feed}
use Rattle.jf_io.proofs.Lines.{is_searched-moved}
use Rattle.jf_io.proofs.AfterLines.{few_more}
use Rattle.jf_io.proofs.line_reader.LineReader.take_piece.Goals as goal

pub invariant_of-self : goal.invariant_of-self
invariant_of-self g c =
    let short = subst (λ (h : ReaderState). length h.bytes ≤ h.limit + 1) (sym c.self.view_is) c.requires.short in
    let plain = subst (λ (h : ReaderState). position_or_len is_line_feed h.bytes ≡ length h.bytes) (sym c.self.view_is) c.requires.unfinished in
    let longer : length c.append_piece.new.bytes.items ≤ length c.drop_front.new.bytes.items + c.self.inside.piece = omega (arith, c.append_piece.ensures.short, c.bytes_to_ask-asked.ensures.most, c.self.invariant.2.within) in
    let kept : position_or_len is_line_feed c.drop_front.new.bytes.items ≡ length c.drop_front.new.bytes.items = rw c.drop_front.ensures plain in (
      is_searched-moved _ _ _ _ _ c.self.invariant.0 c.drop_front.ensures c.append_piece.ensures.front,
      record {
        small = omega (arith, short, longer, ap length c.drop_front.ensures);
        few = few_more _ _ _ (omega (arith, c.self.invariant.1.few)) kept c.append_piece.ensures.front longer;
      },
      c.self.invariant.2,
    )

pub invariant_of-self-2 : goal.invariant_of-self-2
invariant_of-self-2 g c =
    let short = subst (λ (h : ReaderState). length h.bytes ≤ h.limit + 1) (sym c.self.view_is) c.requires.short in
    let plain = subst (λ (h : ReaderState). position_or_len is_line_feed h.bytes ≡ length h.bytes) (sym c.self.view_is) c.requires.unfinished in
    let longer : length c.append_piece.new.bytes.items ≤ length c.drop_front.new.bytes.items + c.self.inside.piece = omega (arith, c.append_piece.ensures.short, c.bytes_to_ask-asked.ensures.most, c.self.invariant.2.within) in
    let kept : position_or_len is_line_feed c.drop_front.new.bytes.items ≡ length c.drop_front.new.bytes.items = rw c.drop_front.ensures plain in (
      is_searched-moved _ _ _ _ _ c.self.invariant.0 c.drop_front.ensures c.append_piece.ensures.front,
      record {
        small = omega (arith, short, longer, ap length c.drop_front.ensures);
        few = few_more _ _ _ (omega (arith, c.self.invariant.1.few)) kept c.append_piece.ensures.front longer;
      },
      record { small = c.self.invariant.2.small; least = c.most_to_ask-self-inside.ensures.least; within = omega (arith, c.most_to_ask-self-inside.ensures.most, c.self.invariant.2.within) },
    )

pub returns-clause-ahead : goal.returns-clause-ahead
returns-clause-ahead g c = let kept = invariant_of-self-2 g c in kept.1.few
