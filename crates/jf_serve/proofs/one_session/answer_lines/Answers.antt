use Rattle.std.proofs.Common.{rules, ◌≡◌, ℕ, Err, List, [], sym, ap, ◌∙◌, subst}
use Rattle.std.proofs.lemmas.Result.{err_from_is_err_and}
use Rattle.jf_io.specs.Lines.{lines}
use Rattle.jf_io.proofs.EndedLines.{lines-none}
use Rattle.jf_session.specs.Taking.{end_of_stop}
use Rattle.jf_serve.specs.Ran.{HasRunSession}
use Rattle.jf_serve.proofs.LinesAnswered.{through_none, through_more, ran_whole, ran_stopped}
use Rattle.jf_serve.proofs.one_session.answer_lines.Goals as goal

pub loop-line-init : goal.loop-line-init
loop-line-init g c = through_none c.args.store.now c.args.session.now.pass.number (lines c.args.script.now) c.args.session.now c.args.text.now c.requires.begun c.requires.pins c.requires.empty

pub loop-line-preserved : goal.loop-line-preserved
loop-line-preserved g c =
    let r = c.in_ok-answer_line.ensures.ok in
    through_more c.loop-line.invariant c.in-Some.line.now (lines c.in-Some.rest.now) c.in-Some.ensures.split c.answer_line.new.session r.0 c.answer_line.new.text r.1 r.2 c.in_ok-answer_line.ensures.goes_on c.answer_line.ensures.own c.in_ok-answer_line.ensures.short

pub returns-in_err-answer_line-clause-err : goal.returns-in_err-answer_line-clause-err
returns-in_err-answer_line-clause-err g c =
    let p = err_from_is_err_and c.from_residual.result c.from_residual.ensures.1 in
    let e = c.in_err-answer_line.ensures in
    let why = c.in_err-answer_line.field-0.0 in
    let ran = ran_stopped c.loop-line.invariant c.in-Some.line.now (lines c.in-Some.rest.now) c.in-Some.ensures.split why c.answer_line.new.session (λ is. e.fault (ap (λ w. Err w) is)) (λ is. e.broken (ap (λ w. Err w) is)) (λ is. e.memory (ap (λ w. Err w) is)) in
    let silent : c.answer_line.new.text ≡ c.loop-line.text = e.silent in
    let told = subst (λ (text : List ℕ). HasRunSession c.args.store.now c.args.session.now.pass.number (lines c.args.script.now) (end_of_stop why) text c.answer_line.new.session.pass) (sym silent) ran in
    rw (p.1, p.2) told

pub returns-clause-ok : goal.returns-clause-ok
returns-clause-ok g c =
    let none : c.loop-line.left.now ≡ [] = search rules in
    ran_whole c.loop-line.invariant (ap lines none ∙ lines-none)
