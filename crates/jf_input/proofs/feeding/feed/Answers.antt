use Rattle.std.proofs.Common.{◌≡◌, [], inl, ap, sym, ◌∙◌, le_refl, Ok, Err, arith}
use Rattle.jf_io.specs.LineReader.{ReaderState}
use Rattle.jf_io.specs.Sink.{IsCutShort}
use Rattle.jf_input.specs.Feeds.{Appends, HandsOn}
use Rattle.jf_input.proofs.Gathering.{from_ok, from_err, from_not}
use Rattle.jf_input.proofs.Progress.{so_far_none, so_far_same, so_far_handed, so_far_fetched, so_far_line, so_far_gathered, fed_cut, fed_cut_last, fed_unread, fed_wanting, fed_wanting_none, at_end_none, at_end_line, fed_at_line, fed_behind}
use Rattle.jf_input.proofs.feeding.feed.Goals as goal

pub loop-turn-init : goal.loop-turn-init
loop-turn-init g c = record { ready = c.requires.ready; so_far = so_far_none c.new-reader.result c.new-out.result c.new-reader.ensures c.new-out.ensures; gathered = inl c.new-out.ensures; piece = ap (λ (h : ReaderState). h.piece) c.new-reader.ensures; source_faults = le_refl _; sink_faults = le_refl _ }

pub returns-then-is_err-clause-fed : goal.returns-then-is_err-clause-fed
returns-then-is_err-clause-fed g c =
    let cut : IsCutShort (g.K.Sink.text c.loop-turn.sink) (g.K.Sink.text c.hand_on_if.new.sink) c.loop-turn.out = from_err c.hand_on_if.result (sym c.is_err.ensures.value ∙ c.if-is_err.true) c.hand_on_if.ensures.cut_short in
    fed_cut c.loop-turn.invariant.so_far cut

pub returns-in-Ok-false-clause-fed : goal.returns-in-Ok-false-clause-fed
returns-in-Ok-false-clause-fed g c =
    let ok = sym c.is_err.ensures.value ∙ c.if-is_err.false in
    let on : HandsOn (g.K.Sink.text c.loop-turn.sink) (g.K.Sink.text c.hand_on_if.new.sink) c.loop-turn.out c.hand_on_if.new.out = from_ok c.hand_on_if.result ok c.hand_on_if.ensures.ok in
    let none : c.hand_on_if.new.out ≡ [] = from_not c.finds_line-asks.result (λ yes. let r = (c.next_line.ensures.ready (c.finds_line-asks.ensures.found.0 yes)).0 in let is = c.in-Ok-false.is in let test = c.in-Ok-false.field-0-test in cc) (λ e. from_ok c.hand_on_if.result ok (c.hand_on_if.ensures.empty e)) in
    let f = so_far_fetched (so_far_handed (so_far_same c.loop-turn.invariant.so_far c.finds_line-asks.ensures.unchanged) on) {held' = c.next_line.new.reader} c.next_line.ensures.limit c.next_line.ensures.kept in
    fed_behind (at_end_none f none (c.in-Ok-false.ensures.ended (ap (λ b. Ok b) c.in-Ok-false.field-0-test))) c.feed_end.ensures.ended

pub returns-in-Err-ReadFault-clause-fed : goal.returns-in-Err-ReadFault-clause-fed
returns-in-Err-ReadFault-clause-fed g c =
    let ok = sym c.is_err.ensures.value ∙ c.if-is_err.false in
    let on : HandsOn (g.K.Sink.text c.loop-turn.sink) (g.K.Sink.text c.hand_on_if.new.sink) c.loop-turn.out c.hand_on_if.new.out = from_ok c.hand_on_if.result ok c.hand_on_if.ensures.ok in
    let none : c.hand_on_if.new.out ≡ [] = from_not c.finds_line-asks.result (λ yes. let r = (c.next_line.ensures.ready (c.finds_line-asks.ensures.found.0 yes)).0 in let is = c.in-Err-ReadFault.is in cc) (λ e. from_ok c.hand_on_if.result ok (c.hand_on_if.ensures.empty e)) in
    let f = so_far_fetched (so_far_handed (so_far_same c.loop-turn.invariant.so_far c.finds_line-asks.ensures.unchanged) on) {held' = c.next_line.new.reader} c.next_line.ensures.limit c.next_line.ensures.kept in
    fed_unread f none (c.in-Err-ReadFault.ensures.unfinished (ap (λ e. Err e) c.in-Err-ReadFault.field-0-is))

pub returns-in-Err-Memory-clause-fed : goal.returns-in-Err-Memory-clause-fed
returns-in-Err-Memory-clause-fed g c =
    let ok = sym c.is_err.ensures.value ∙ c.if-is_err.false in
    let on : HandsOn (g.K.Sink.text c.loop-turn.sink) (g.K.Sink.text c.hand_on_if.new.sink) c.loop-turn.out c.hand_on_if.new.out = from_ok c.hand_on_if.result ok c.hand_on_if.ensures.ok in
    let none : c.hand_on_if.new.out ≡ [] = from_not c.finds_line-asks.result (λ yes. let r = (c.next_line.ensures.ready (c.finds_line-asks.ensures.found.0 yes)).0 in let is = c.in-Err-Memory.is in cc) (λ e. from_ok c.hand_on_if.result ok (c.hand_on_if.ensures.empty e)) in
    let f = so_far_fetched (so_far_handed (so_far_same c.loop-turn.invariant.so_far c.finds_line-asks.ensures.unchanged) on) {held' = c.next_line.new.reader} c.next_line.ensures.limit c.next_line.ensures.kept in
    fed_wanting_none f none

pub returns-in-Err-clause-fed : goal.returns-in-Err-clause-fed
returns-in-Err-clause-fed g c =
    let ok = sym c.is_err.ensures.value ∙ c.if-is_err.false in
    let on : HandsOn (g.K.Sink.text c.loop-turn.sink) (g.K.Sink.text c.hand_on_if.new.sink) c.loop-turn.out c.hand_on_if.new.out = from_ok c.hand_on_if.result ok c.hand_on_if.ensures.ok in
    let f = so_far_fetched (so_far_handed (so_far_same c.loop-turn.invariant.so_far c.finds_line-asks.ensures.unchanged) on) {held' = c.next_line.new.reader} c.next_line.ensures.limit c.next_line.ensures.kept in
    let piece : c.next_line.new.reader.piece ≡ c.args.piece = c.next_line.ensures.piece ∙ ap (λ (h : ReaderState). h.piece) c.finds_line-asks.ensures.unchanged ∙ c.loop-turn.invariant.piece in
    fed_at_line f c.line.ensures c.in-Err.how (c.in-Ok-true.ensures.found (ap (λ b. Ok b) c.in-Ok-true.field-0-test)) (omega (arith, c.next_line.ensures.ahead, piece)) c.in-Err.ensures.err

pub returns-in-Err-clause-read : goal.returns-in-Err-clause-read
returns-in-Err-clause-read g c = λ e. absurd (c.in-Err.ensures.unstopped (ap (λ h. Err h) e))

pub returns-then-is_err-2-clause-fed : goal.returns-then-is_err-2-clause-fed
returns-then-is_err-2-clause-fed g c =
    let ok = sym c.is_err.ensures.value ∙ c.if-is_err.false in
    let on : HandsOn (g.K.Sink.text c.loop-turn.sink) (g.K.Sink.text c.hand_on_if.new.sink) c.loop-turn.out c.hand_on_if.new.out = from_ok c.hand_on_if.result ok c.hand_on_if.ensures.ok in
    let f = so_far_fetched (so_far_handed (so_far_same c.loop-turn.invariant.so_far c.finds_line-asks.ensures.unchanged) on) {held' = c.next_line.new.reader} c.next_line.ensures.limit c.next_line.ensures.kept in
    let found = c.in-Ok-true.ensures.found (ap (λ b. Ok b) c.in-Ok-true.field-0-test) in
    let cut : IsCutShort (g.K.Sink.text c.feed_line.new.sink) (g.K.Sink.text c.hand_on.new.sink) c.feed_line.new.out = from_err c.hand_on.result (sym c.is_err-then-is_last.ensures.value ∙ c.if-is_err-2.true) c.hand_on.ensures.cut_short in
    fed_cut_last f c.line.ensures found c.in-Ok.ensures.ok cut

pub returns-then-is_last-clause-fed : goal.returns-then-is_last-clause-fed
returns-then-is_last-clause-fed g c =
    let ok = sym c.is_err.ensures.value ∙ c.if-is_err.false in
    let on : HandsOn (g.K.Sink.text c.loop-turn.sink) (g.K.Sink.text c.hand_on_if.new.sink) c.loop-turn.out c.hand_on_if.new.out = from_ok c.hand_on_if.result ok c.hand_on_if.ensures.ok in
    let f = so_far_fetched (so_far_handed (so_far_same c.loop-turn.invariant.so_far c.finds_line-asks.ensures.unchanged) on) {held' = c.next_line.new.reader} c.next_line.ensures.limit c.next_line.ensures.kept in
    let found = c.in-Ok-true.ensures.found (ap (λ b. Ok b) c.in-Ok-true.field-0-test) in
    let put : Appends (g.K.Sink.text c.feed_line.new.sink) (g.K.Sink.text c.hand_on.new.sink) c.feed_line.new.out = from_ok c.hand_on.result (sym c.is_err-then-is_last.ensures.value ∙ c.if-is_err-2.false) c.hand_on.ensures.ok in
    fed_behind (at_end_line f c.line.ensures (c.is_last-is_last.ensures.0 c.if-is_last.true) found c.in-Ok.ensures.ok put) c.feed_end-then-is_last.ensures.ended

pub loop-turn-preserved : goal.loop-turn-preserved
loop-turn-preserved g c =
    let ok = sym c.is_err.ensures.value ∙ c.if-is_err.false in
    let on : HandsOn (g.K.Sink.text c.loop-turn.sink) (g.K.Sink.text c.hand_on_if.new.sink) c.loop-turn.out c.hand_on_if.new.out = from_ok c.hand_on_if.result ok c.hand_on_if.ensures.ok in
    let f = so_far_fetched (so_far_handed (so_far_same c.loop-turn.invariant.so_far c.finds_line-asks.ensures.unchanged) on) {held' = c.next_line.new.reader} c.next_line.ensures.limit c.next_line.ensures.kept in
    record {
      ready = c.in-Ok.ensures.ready;
      so_far = so_far_line f c.line.ensures (λ whole. let yes = c.is_last-is_last.ensures.1 whole in let is = c.if-is_last.false in absurd (cc)) c.in-Ok.ensures.ok c.advance.ensures;
      gathered = so_far_gathered f c.line.ensures c.in-Ok.ensures.ok;
      piece = ap (λ (h : ReaderState). h.piece) c.advance.ensures ∙ c.next_line.ensures.piece ∙ ap (λ (h : ReaderState). h.piece) c.finds_line-asks.ensures.unchanged ∙ c.loop-turn.invariant.piece;
      source_faults = omega (arith, c.loop-turn.invariant.source_faults, c.next_line.ensures.counts);
      sink_faults = omega (arith, c.loop-turn.invariant.sink_faults, c.hand_on_if.ensures.counts, c.feed_line.ensures.counts);
    }

pub returns-then-is_err-3-clause-fed : goal.returns-then-is_err-3-clause-fed
returns-then-is_err-3-clause-fed g c =
    let cut : IsCutShort (g.K.Sink.text c.loop-turn.sink) (g.K.Sink.text c.hand_on-2.new.sink) c.loop-turn.out = from_err c.hand_on-2.result (sym c.is_err-2.ensures.value ∙ c.if-is_err-3.true) c.hand_on-2.ensures.cut_short in
    fed_cut c.loop-turn.invariant.so_far cut

pub returns-clause-fed : goal.returns-clause-fed
returns-clause-fed g c =
    let put : Appends (g.K.Sink.text c.loop-turn.sink) (g.K.Sink.text c.hand_on-2.new.sink) c.loop-turn.out = from_ok c.hand_on-2.result (sym c.is_err-2.ensures.value ∙ c.if-is_err-3.false) c.hand_on-2.ensures.ok in
    fed_wanting c.loop-turn.invariant.so_far put
