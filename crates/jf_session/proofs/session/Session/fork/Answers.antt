use Rattle.std.proofs.Common.{refl}
use Rattle.jf_script.specs.declared.command.Command.TheVariants as command
use Rattle.jf_script.specs.declared.command.Change.TheVariants as change
use Rattle.jf_session.proofs.Entering.{IsObeyed-entered, IsSoundSession-entered}
use Rattle.jf_session.proofs.RefusedCalls.{IsObeyed-failed, IsSoundSession-failed}
use Rattle.jf_session.proofs.Changes.{Enters-fork, Fails-fork}
use Rattle.jf_session.proofs.session.Session.fork.Goals as goal

pub invariant_of-self : goal.invariant_of-self
invariant_of-self g c =
    let i = c.self.inside in
    let p' = c.fork-forked.new.self in
    let k = c.know.ensures in
    IsSoundSession-entered _ i.pass p' i.pending c.clear.new.self i.over i.over (command.Change (change.Fork c.args.on)) _ c.self.invariant
    (Enters-fork _ i.pass p' i.pending k.events k.start c.args.on c.in-Ok.batch c.in-Ok.ensures c.in-Ok-forked.forked c.in-Ok-forked.ensures.made c.clear.new.self c.clear.ensures)

pub invariant_of-self-in-Err-forked : goal.invariant_of-self-in-Err-forked
invariant_of-self-in-Err-forked g c =
    let i = c.self.inside in
    let p' = c.fork-forked.new.self in
    let k = c.know.ensures in
    let fault = c.in-Err-forked.fault in
    IsSoundSession-failed _ i.pass p' i.pending i.over c.refusal_reply.new.over (command.Change (change.Fork c.args.on)) fault
    (Fails-fork _ i.pass p' i.pending k.events k.start c.args.on fault c.in-Err-forked.ensures.refused) c.refusal_reply.result c.refusal_reply.ensures c.self.invariant

pub returns-in-Ok-forked : goal.returns-in-Ok-forked
returns-in-Ok-forked g c =
    let i = c.self.inside in
    let p' = c.fork-forked.new.self in
    let k = c.know.ensures in
    IsObeyed-entered _ i.pass p' i.pending c.clear.new.self i.over i.over c.args.self.now c.self.view_is (command.Change (change.Fork c.args.on)) c.requires.over refl _
    (Enters-fork _ i.pass p' i.pending k.events k.start c.args.on c.in-Ok.batch c.in-Ok.ensures c.in-Ok-forked.forked c.in-Ok-forked.ensures.made c.clear.new.self c.clear.ensures)

pub returns : goal.returns
returns g c =
    let i = c.self.inside in
    let p' = c.fork-forked.new.self in
    let k = c.know.ensures in
    let fault = c.in-Err-forked.fault in
    IsObeyed-failed _ i.pass p' i.pending i.over c.refusal_reply.new.over (command.Change (change.Fork c.args.on)) fault
    (Fails-fork _ i.pass p' i.pending k.events k.start c.args.on fault c.in-Err-forked.ensures.refused) c.args.self.now c.self.view_is refl c.requires.over c.refusal_reply.result c.refusal_reply.ensures
