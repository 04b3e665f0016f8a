use Rattle.std.proofs.Common.{rules, ◌≡◌, [], inl, ap, ◌∙◌, le_refl, Ok, Err, arith}
use Rattle.jf_io.specs.LineReader.{ReaderState}
use Rattle.jf_input.proofs.Gathering.{from_not}
use Rattle.jf_input.proofs.ProgressThrough.{through_none, through_fetched, through_unread, through_wanting_none, through_wanting, through_end_none, through_line, through_gathered, through_end_line, through_stopped, through_behind}
use Rattle.jf_input.proofs.feeding_through.feed_through.Goals as goal

pub loop-turn-init : goal.loop-turn-init
loop-turn-init g c = record { ready = c.requires.ready; so_far = through_none c.new-reader.result c.new-out.result c.new-reader.ensures c.new-out.ensures; gathered = inl c.new-out.ensures; piece = ap (λ (h : ReaderState). h.piece) c.new-reader.ensures; source_faults = le_refl _; sink_faults = le_refl _; cut = λ e. absurd (cc) }

pub returns-in-Ok-false-clause-fed : goal.returns-in-Ok-false-clause-fed
returns-in-Ok-false-clause-fed g c =
    let f = through_fetched c.loop-turn.invariant.so_far {fetched = c.next_line.new.reader} c.finds_line-asks.ensures.unchanged c.put_through_if.ensures.put c.next_line.ensures.limit c.next_line.ensures.kept in
    let none : c.put_through_if.new.out ≡ [] = from_not c.finds_line-asks.result (λ yes. let r = (c.next_line.ensures.ready (c.finds_line-asks.ensures.found.0 yes)).0 in let is = c.in-Ok-false.is in let test = c.in-Ok-false.field-0-test in cc) c.put_through_if.ensures.empty in
    through_behind (through_end_none f none (c.in-Ok-false.ensures.ended (ap (λ b. Ok b) c.in-Ok-false.field-0-test))) c.end_through.ensures.unstopped c.end_through.ensures.ended

pub returns-in-Err-ReadFault-clause-fed : goal.returns-in-Err-ReadFault-clause-fed
returns-in-Err-ReadFault-clause-fed g c =
    let f = through_fetched c.loop-turn.invariant.so_far {fetched = c.next_line.new.reader} c.finds_line-asks.ensures.unchanged c.put_through_if.ensures.put c.next_line.ensures.limit c.next_line.ensures.kept in
    let none : c.put_through_if.new.out ≡ [] = from_not c.finds_line-asks.result (λ yes. let r = (c.next_line.ensures.ready (c.finds_line-asks.ensures.found.0 yes)).0 in let is = c.in-Err-ReadFault.is in cc) c.put_through_if.ensures.empty in
    rw c.new.ensures (through_unread f none (c.in-Err-ReadFault.ensures.unfinished (ap (λ e. Err e) c.in-Err-ReadFault.field-0-is)))

pub returns-in-Err-Memory-clause-fed : goal.returns-in-Err-Memory-clause-fed
returns-in-Err-Memory-clause-fed g c =
    let f = through_fetched c.loop-turn.invariant.so_far {fetched = c.next_line.new.reader} c.finds_line-asks.ensures.unchanged c.put_through_if.ensures.put c.next_line.ensures.limit c.next_line.ensures.kept in
    let none : c.put_through_if.new.out ≡ [] = from_not c.finds_line-asks.result (λ yes. let r = (c.next_line.ensures.ready (c.finds_line-asks.ensures.found.0 yes)).0 in let is = c.in-Err-Memory.is in cc) c.put_through_if.ensures.empty in
    rw c.new-in-Err-Memory.ensures (through_wanting_none f none)

pub returns-in-Err-clause-fed : goal.returns-in-Err-clause-fed
returns-in-Err-clause-fed g c =
    let f = through_fetched c.loop-turn.invariant.so_far {fetched = c.next_line.new.reader} c.finds_line-asks.ensures.unchanged c.put_through_if.ensures.put c.next_line.ensures.limit c.next_line.ensures.kept in
    let piece : c.next_line.new.reader.piece ≡ c.args.piece = c.next_line.ensures.piece ∙ ap (λ (h : ReaderState). h.piece) c.finds_line-asks.ensures.unchanged ∙ c.loop-turn.invariant.piece in
    rw c.new-in-Err.ensures
    (through_stopped f c.line.ensures (c.in-Ok-true.ensures.found (ap (λ b. Ok b) c.in-Ok-true.field-0-test)) (omega (arith, c.next_line.ensures.ahead, piece)) c.in-Err.ensures.err c.in-Err.ensures.put)

pub returns-then-is_last-clause-fed : goal.returns-then-is_last-clause-fed
returns-then-is_last-clause-fed g c =
    let f = through_fetched c.loop-turn.invariant.so_far {fetched = c.next_line.new.reader} c.finds_line-asks.ensures.unchanged c.put_through_if.ensures.put c.next_line.ensures.limit c.next_line.ensures.kept in
    let found = c.in-Ok-true.ensures.found (ap (λ b. Ok b) c.in-Ok-true.field-0-test) in
    let end = through_end_line f c.line.ensures c.line_through.new.is_cut (g.K.Sink.text c.line_through.new.sink) (c.is_last-is_last.ensures.0 c.if-is_last.true) found c.in-Ok.ensures.ok c.put_through.ensures.put in
    through_behind end c.end_through-then-is_last.ensures.unstopped c.end_through-then-is_last.ensures.ended

pub loop-turn-preserved : goal.loop-turn-preserved
loop-turn-preserved g c =
    let f = through_fetched c.loop-turn.invariant.so_far {fetched = c.next_line.new.reader} c.finds_line-asks.ensures.unchanged c.put_through_if.ensures.put c.next_line.ensures.limit c.next_line.ensures.kept in
    record {
      ready = c.in-Ok.ensures.ready;
      so_far = through_line f c.line.ensures (λ whole. let yes = c.is_last-is_last.ensures.1 whole in let is = c.if-is_last.false in absurd (cc)) c.in-Ok.ensures.ok c.advance.ensures;
      gathered = through_gathered f c.line.ensures c.in-Ok.ensures.ok.2;
      piece = ap (λ (h : ReaderState). h.piece) c.advance.ensures ∙ c.next_line.ensures.piece ∙ ap (λ (h : ReaderState). h.piece) c.finds_line-asks.ensures.unchanged ∙ c.loop-turn.invariant.piece;
      source_faults = omega (arith, c.loop-turn.invariant.source_faults, c.next_line.ensures.counts);
      sink_faults = omega (arith, c.loop-turn.invariant.sink_faults, c.put_through_if.ensures.counts, c.line_through.ensures.counts);
      cut = search rules;
    }

pub returns-clause-fed : goal.returns-clause-fed
returns-clause-fed g c = rw c.new-2.ensures (through_wanting c.loop-turn.invariant.so_far c.put_through-2.ensures.put)
