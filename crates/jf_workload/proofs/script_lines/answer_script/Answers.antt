use Rattle.std.proofs.Common.{◌≡◌, ℕ, Err, List, ◌++◌, ap, ◌∙◌}
use Rattle.std.proofs.lemmas.Result.{err_from_is_err_and}
use Rattle.jf_workload.proofs.LinesDone.{next_there, next_none, so_far_none, few_refused, all_tallied, ended_between, so_far_more, ended_uncounted, ended_at}
use Rattle.jf_workload.proofs.script_lines.answer_script.Goals as goal

pub loop-reply-init : goal.loop-reply-init
loop-reply-init g c = so_far_none c.args.store.now c.args.script c.args.session.now c.new-tally.result c.requires.own c.requires.begun c.requires.unmarked c.requires.pins c.new-tally.ensures

pub count_reply-requires : goal.count_reply-requires
count_reply-requires g c = few_refused c.loop-reply.invariant c.requires.lines

pub loop-reply-preserved : goal.loop-reply-preserved
loop-reply-preserved g c =
    let left' = c.next_line.new.script in
    let line = c.as_slice.result.now in
    let next = next_there c.loop-reply.script left' c.next_line.new.line line c.in_ok-next_line.field-0 c.in_ok-next_line.ensures.ok c.if-branch.true c.as_slice.ensures in
    let r = c.in_ok-step.ensures.ok in
    let text : c.as_slice-in-loop-reply.result.now ≡ r.0.text = c.as_slice-in-loop-reply.ensures ∙ r.2 ∙ ap (λ (t : List ℕ). t ++ r.0.text) c.clear.ensures in
    so_far_more c.loop-reply.invariant line left' next c.step.new.self c.count_reply.new.tally r.0 c.as_slice-in-loop-reply.result.now r.1 text c.in_ok-count_reply.ensures.ok c.in_ok-step.ensures.goes_on c.step.ensures.own

pub returns-in_err-next_line-clause-err : goal.returns-in_err-next_line-clause-err
returns-in_err-next_line-clause-err g c = λ text.
    let p = err_from_is_err_and c.from_residual.result c.from_residual.ensures.1 in
    rw (p.1, p.2, c.in_err-next_line.ensures.err) (ended_between c.loop-reply.invariant text)

pub returns-in_err-step-clause-err : goal.returns-in_err-step-clause-err
returns-in_err-step-clause-err g c = λ text.
    let p = err_from_is_err_and c.from_residual-in_err-step.result c.from_residual-in_err-step.ensures.1 in
    let left' = c.next_line.new.script in
    let line = c.as_slice.result.now in
    let next = next_there c.loop-reply.script left' c.next_line.new.line line c.in_ok-next_line.field-0 c.in_ok-next_line.ensures.ok c.if-branch.true c.as_slice.ensures in
    let e = c.in_err-step.ensures in
    rw (p.1, p.2)
    (ended_at c.loop-reply.invariant line left' next c.in_err-step.field-0.0 c.step.new.self (λ is. e.fault (ap (λ w. Err w) is)) (λ is. e.broken (ap (λ w. Err w) is)) (λ is. e.memory (ap (λ w. Err w) is)) text)

pub returns-in_err-count_reply-clause-err : goal.returns-in_err-count_reply-clause-err
returns-in_err-count_reply-clause-err g c = λ text.
    let p = err_from_is_err_and c.from_residual-in_err-count_reply.result c.from_residual-in_err-count_reply.ensures.1 in
    let left' = c.next_line.new.script in
    let line = c.as_slice.result.now in
    let next = next_there c.loop-reply.script left' c.next_line.new.line line c.in_ok-next_line.field-0 c.in_ok-next_line.ensures.ok c.if-branch.true c.as_slice.ensures in
    let r = c.in_ok-step.ensures.ok in
    rw (p.1, p.2, c.in_err-count_reply.ensures.err) (ended_uncounted c.loop-reply.invariant line left' next c.step.new.self r.0 r.1 text)

pub returns-clause-ok : goal.returns-clause-ok
returns-clause-ok g c = all_tallied c.loop-reply.invariant (next_none c.loop-reply.script c.next_line.new.script c.next_line.new.line c.in_ok-next_line.field-0 c.in_ok-next_line.ensures.ok c.if-branch.false)
