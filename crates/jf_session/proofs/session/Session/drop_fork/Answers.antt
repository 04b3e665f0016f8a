use Rattle.std.proofs.Common.{refl}
use Rattle.jf_script.specs.declared.command.Command.TheVariants as command
use Rattle.jf_script.specs.declared.command.Change.TheVariants as change
use Rattle.jf_session.proofs.Entering.{IsObeyed-entered, IsSoundSession-entered}
use Rattle.jf_session.proofs.RefusedCalls.{IsObeyed-failed, IsSoundSession-failed}
use Rattle.jf_session.proofs.Changes.{Enters-drop, Fails-drop}
use Rattle.jf_session.proofs.session.Session.drop_fork.Goals as goal

pub invariant_of-self : goal.invariant_of-self
invariant_of-self g c =
    let i = c.self.inside in
    let p' = c.drop_fork-dropped.new.self in
    IsSoundSession-entered _ i.pass p' i.pending i.pending i.over i.over (command.Change (change.Drop c.args.id)) _ c.self.invariant
    (Enters-drop _ i.pass p' i.pending c.know.ensures.events c.know.ensures.start c.args.id c.in-Ok.count c.in-Ok.ensures.dropped)

pub invariant_of-self-in-Err : goal.invariant_of-self-in-Err
invariant_of-self-in-Err g c =
    let i = c.self.inside in
    let p' = c.drop_fork-dropped.new.self in
    IsSoundSession-failed _ i.pass p' i.pending i.over c.refusal_reply.new.over (command.Change (change.Drop c.args.id)) c.in-Err.fault
    (Fails-drop _ i.pass p' i.pending c.know.ensures.events c.know.ensures.start c.args.id c.in-Err.fault c.in-Err.ensures.refused) c.refusal_reply.result c.refusal_reply.ensures c.self.invariant

pub returns-in-Ok : goal.returns-in-Ok
returns-in-Ok g c =
    let i = c.self.inside in
    let p' = c.drop_fork-dropped.new.self in
    IsObeyed-entered _ i.pass p' i.pending i.pending i.over i.over c.args.self.now c.self.view_is (command.Change (change.Drop c.args.id)) c.requires.over refl _
    (Enters-drop _ i.pass p' i.pending c.know.ensures.events c.know.ensures.start c.args.id c.in-Ok.count c.in-Ok.ensures.dropped)

pub returns-in-Err : goal.returns-in-Err
returns-in-Err g c =
    let i = c.self.inside in
    let p' = c.drop_fork-dropped.new.self in
    IsObeyed-failed _ i.pass p' i.pending i.over c.refusal_reply.new.over (command.Change (change.Drop c.args.id)) c.in-Err.fault
    (Fails-drop _ i.pass p' i.pending c.know.ensures.events c.know.ensures.start c.args.id c.in-Err.fault c.in-Err.ensures.refused) c.args.self.now c.self.view_is refl c.requires.over c.refusal_reply.result c.refusal_reply.ensures
