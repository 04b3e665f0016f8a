use Rattle.std.specs.Prelude.{IfSome}
use Rattle.std.proofs.Common.{sym, subst}
use Rattle.jf_judge.specs.JudgedReplies.{TakesReply, WritesLookup}
use Rattle.jf_judge.proofs.Taken.{verdict-taken}
use Rattle.jf_judge.proofs.judging.judge_reply.Goals as goal

pub returns-clause-judged : goal.returns-clause-judged
returns-clause-judged g c =
    let rest = g.S.Source.rest c.args.source.now in
    let rest' = g.S.Source.rest c.take_reply.new.source in
    let text = g.K.Sink.text c.args.sink.now in
    let text' = g.K.Sink.text c.write_verdict.new.sink in
    let top = c.args.root.now in
    let name = c.args.name.now in
    let how = c.write_verdict.result in
    verdict-taken top name rest rest' c.deref.result.now (subst (TakesReply rest rest') (sym c.deref.ensures.value) c.in-Ok.ensures.ok) how text text' c.look_up.ensures.sound c.honest_blocks_are_believed.ensures
    (subst (λ shown. IfSome shown (λ s. WritesLookup how s text text')) c.look_up.ensures.answer c.write_verdict.ensures.written)
