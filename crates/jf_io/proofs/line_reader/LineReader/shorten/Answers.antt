use Rattle.std.proofs.Common.{◌≡◌, ◌+◌, ◌≤◌, sym, ap, ◌∙◌, subst, length, take, drop, arith, length-take, length-drop}
use Rattle.std.specs.List.{position_or_len}
use Rattle.jf_io.specs.LineReader.{is_line_feed, ReaderState}
use Rattle.jf_io.proofs.Shortened.{drop-short, is_searched-short, take_plain}
use Rattle.jf_io.proofs.AfterLines.{few_none}
use Rattle.jf_io.proofs.line_reader.LineReader.shorten.Goals as goal

pub invariant_of-self : goal.invariant_of-self
invariant_of-self c =
    let bytes = c.self.inside.bytes.items in
    let start = c.self.inside.start in
    let limit = c.self.inside.limit in
    let plain = subst (λ (h : ReaderState). position_or_len is_line_feed h.bytes ≡ length h.bytes) (sym c.self.view_is) c.requires in
    let size = subst (λ (h : ReaderState). c.len.result ≡ length h.bytes) (sym c.self.view_is) c.len.ensures in
    let fits : start + limit + 1 ≤ length bytes = omega (arith, length-drop start bytes, c.if-len-self.true, size) in (
      is_searched-short bytes c.truncate.new.self.items start limit c.len-self-inside.result plain fits c.truncate.ensures.items (omega (arith, c.len-self-inside.ensures)),
      record {
        small = omega (arith, c.self.invariant.1.small, ap length c.truncate.ensures.items, length-take (start + limit + 1) bytes);
        few = few_none c.self.inside.piece (drop start c.truncate.new.self.items) (omega (arith, c.self.invariant.1.few)) (rw (drop-short bytes c.truncate.new.self.items start limit c.truncate.ensures.items) (take_plain (limit + 1) (drop start bytes) plain));
      },
      c.self.invariant.2,
    )

pub returns-then-len-self : goal.returns-then-len-self
returns-then-len-self c =
    let limit = c.self.inside.limit in
    let held : ReaderState = record { limit = limit; piece = c.self.inside.piece; bytes = drop c.self.inside.start c.self.inside.bytes.items } in
    ap (λ b. record held { bytes = b }) (drop-short c.self.inside.bytes.items c.truncate.new.self.items c.self.inside.start limit c.truncate.ensures.items)
    ∙ ap (λ (h : ReaderState). record h { bytes = take (h.limit + 1) h.bytes }) c.self.view_is
