use Rattle.std.proofs.Common.{◌+◌, map, take, drop, arith, sym, ◌∙◌, subst, ℕ, List}
use Rattle.std.specs.List.{concat}
use Rattle.jf_io.proofs.SinkLaws.{cut_short-in}
use Rattle.jf_serve.specs.HeldText.{AddsText}
use Rattle.jf_serve.specs.ServedTexts.{session_text}
use Rattle.jf_serve.proofs.HeldTextLaws.{adds-then, cut-then}
use Rattle.jf_serve.proofs.JoinedTexts.{concat-next, concat-rest}
use Rattle.jf_serve.proofs.Refused.{on_err-always}
use Rattle.jf_serve.proofs.report.write_sessions.Goals as goal

pub loop-output-preserved : goal.loop-output-preserved
loop-output-preserved g c =
    let held = c.args.held.now in
    let outputs = c.args.outputs.now in
    let i = c.loop-output.output-index in
    let now = adds-then _ _ _ held c.loop-output.held (concat (map session_text (take i outputs))) c.loop-output.invariant.added c.write_session.new.held _ c.in_ok-write_session.ensures.ok in
    record {
      added = subst (λ (t : List ℕ). AddsText (g.K.Sink.text c.args.sink.now) (g.K.Sink.text c.write_session.new.sink) held c.write_session.new.held t) (sym (concat-next session_text outputs i _ _ c.loop-output-test.true (c.as_slice.ensures ∙ c.output-item.is))) now;
      grows = omega (arith, c.loop-output.invariant.grows, c.in_ok-write_session.ensures.counts);
    }

pub returns-in_err-write_session-clause-cut_short : goal.returns-in_err-write_session-clause-cut_short
returns-in_err-write_session-clause-cut_short g c =
    let held = c.args.held.now in
    let outputs = c.args.outputs.now in
    let i = c.loop-output.output-index in
    let cut = cut-then _ _ _ held c.loop-output.held (concat (map session_text (take i outputs))) c.loop-output.invariant.added _ c.in_err-write_session.ensures.cut_short in
    on_err-always _ (cut_short-in _ _ held _ (concat (map session_text (drop (i + 1) outputs))) _ (concat-rest session_text outputs i _ _ c.loop-output-test.true (c.as_slice.ensures ∙ c.output-item.is)) cut)
