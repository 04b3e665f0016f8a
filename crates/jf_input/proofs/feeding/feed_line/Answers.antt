use Rattle.std.proofs.Common.{◌≡◌, ◌<◌, ◌⊎◌, [], length, Err, sym, ◌∙◌}
use Rattle.jf_io.specs.Sink.{IsCutShort}
use Rattle.jf_input.specs.Feeds.{max_gathered, HandsOn}
use Rattle.jf_input.proofs.Gathering.{gathers_line, stops_cut, from_ok, from_err, from_test}
use Rattle.jf_input.proofs.feeding.feed_line.Goals as goal

pub returns-in-Ok-clause-ok : goal.returns-in-Ok-clause-ok
returns-in-Ok-clause-ok g c = λ whole given.
    let t = c.in-Ok.ensures.ok in
    let step = t.2 whole given in
    let ok = sym c.is_err.ensures.value ∙ c.if-is_err.false in
    let on : HandsOn (g.K.Sink.text c.args.sink.now) (g.K.Sink.text c.hand_on_if.new.sink) c.args.out.now c.hand_on_if.new.out = from_ok c.hand_on_if.result ok c.hand_on_if.ensures.ok in
    let known : (g.M.LineMachine.quiet c.args.machine.now c.take_line.new.self × (length c.args.out.now < max_gathered)) ⊎ (c.hand_on_if.new.out ≡ []) = from_test c.is_due_before-is_due.result
    (λ no. let few = c.is_due_before-is_due.ensures no in (few.0 whole given _ _ step, few.1))
    (λ yes. from_ok c.hand_on_if.result ok (c.hand_on_if.ensures.empty yes)) in
    (t.0, step, gathers_line g.M.LineMachine.quiet on known t.1)

pub returns-then-is_err-2-clause-err : goal.returns-then-is_err-2-clause-err
returns-then-is_err-2-clause-err g c = λ whole given.
    let step = c.in-Err.ensures.err whole given in
    let ok = sym c.is_err.ensures.value ∙ c.if-is_err.false in
    let on : HandsOn (g.K.Sink.text c.args.sink.now) (g.K.Sink.text c.hand_on_if.new.sink) c.args.out.now c.hand_on_if.new.out = from_ok c.hand_on_if.result ok c.hand_on_if.ensures.ok in
    let known : (g.M.LineMachine.quiet c.args.machine.now c.take_line.new.self × (length c.args.out.now < max_gathered)) ⊎ (c.hand_on_if.new.out ≡ []) = from_test c.is_due_before-is_due.result
    (λ no. let few = c.is_due_before-is_due.ensures no in (few.0 whole given _ _ step, few.1))
    (λ yes. from_ok c.hand_on_if.result ok (c.hand_on_if.ensures.empty yes)) in
    let cut : IsCutShort (g.K.Sink.text c.hand_on_if.new.sink) (g.K.Sink.text c.hand_on.new.sink) c.take_line.new.out = from_err c.hand_on.result (sym c.is_err-in-Err.ensures.value ∙ c.if-is_err-2.true) c.hand_on.ensures.cut_short in
    stops_cut g.M.LineMachine.quiet on known g.M.LineMachine.takes whole (Err c.in-Err.why) c.in-Err.ensures.silent cut step
