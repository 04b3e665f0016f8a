use Rattle.std.proofs.Common.{sym, subst}
use Rattle.jf_store.specs.Passes.{Pass}
use Rattle.jf_history.specs.Sessions.{Session}
use Rattle.jf_history.specs.declared.end.End.{End}
use Rattle.jf_session.specs.Taking.{end_of_stop}
use Rattle.jf_workload.specs.ScriptRuns.{HasTallied, HasRunScript}
use Rattle.jf_workload.proofs.LinesDone.{ended_reported}
use Rattle.jf_workload.proofs.SamePass.{same_script}
use Rattle.jf_workload.proofs.generating.run_generated.Goals as goal

pub returns-in-Ok-clause-ran : goal.returns-in-Ok-clause-ran
returns-in-Ok-clause-ran g c =
    let start = c.args.store.now.start in
    let e = c.write_report.result in
    let text = g.K.Sink.text c.args.sink.now in
    let text' = g.K.Sink.text c.write_report.new.sink in
    let now = c.answer_script-answered.new.session in
    let t = subst (λ (s : Session). HasTallied start s.pass now c.args.script c.in-Ok.tally) c.new-session.ensures c.in-Ok.ensures.ok in
    let r = ended_reported start c.args.script c.args.pass now c.in-Ok.tally text text' t e c.write_report.ensures.reported in
    subst (λ (p : Pass). HasRunScript e start c.args.script c.args.pass p text text') (sym c.end-pass.ensures) r

pub returns-in-Ok-clause-own : goal.returns-in-Ok-clause-own
returns-in-Ok-clause-own g c = same_script c.args.store.now _ c.args.script c.args.pass c.end-pass.result _ _ c.requires.own (returns-in-Ok-clause-ran g c)

pub returns-in-Err-clause-ran : goal.returns-in-Err-clause-ran
returns-in-Err-clause-ran g c =
    let start = c.args.store.now.start in
    let text = g.K.Sink.text c.args.sink.now in
    let r = c.in-Err.ensures.err text in
    let from = subst (λ (s : Session). HasRunScript (end_of_stop c.in-Err.why) start c.args.script s.pass c.answer_script-answered.new.session.pass text text) c.new-session.ensures r in
    let at = subst (λ (p : Pass). HasRunScript (end_of_stop c.in-Err.why) start c.args.script c.args.pass p text text) (sym c.end-pass.ensures) from in
    subst (λ (e : End). HasRunScript e start c.args.script c.args.pass c.end-pass.result text text) (sym c.end.ensures) at

pub returns-in-Err-clause-own : goal.returns-in-Err-clause-own
returns-in-Err-clause-own g c = same_script c.args.store.now _ c.args.script c.args.pass c.end-pass.result _ _ c.requires.own (returns-in-Err-clause-ran g c)
