use Rattle.std.proofs.Common.{refl}
use Rattle.jf_script.specs.declared.command.Command.TheVariants as command
use Rattle.jf_script.specs.declared.command.Change.TheVariants as change
use Rattle.jf_session.proofs.Entering.{IsObeyed-entered, IsSoundSession-entered}
use Rattle.jf_session.proofs.RefusedCalls.{IsObeyed-failed, IsSoundSession-failed}
use Rattle.jf_session.proofs.Changes.{Enters-compact, Fails-compact}
use Rattle.jf_session.proofs.session.Session.compact.Goals as goal

pub invariant_of-self : goal.invariant_of-self
invariant_of-self g c =
    let i = c.self.inside in
    let p' = c.compact-compacted.new.self in
    IsSoundSession-entered _ i.pass p' i.pending i.pending i.over i.over (command.Change change.Compact) _ c.self.invariant
    (Enters-compact _ i.pass p' i.pending c.know.ensures.events c.know.ensures.start c.in-Ok.generation c.in-Ok.ensures.compacted)

pub invariant_of-self-in-Err : goal.invariant_of-self-in-Err
invariant_of-self-in-Err g c =
    let i = c.self.inside in
    let p' = c.compact-compacted.new.self in
    IsSoundSession-failed _ i.pass p' i.pending i.over c.refusal_reply.new.over (command.Change change.Compact) c.in-Err.fault
    (Fails-compact _ i.pass p' i.pending c.know.ensures.events c.know.ensures.start c.in-Err.fault c.in-Err.ensures.failed) c.refusal_reply.result c.refusal_reply.ensures c.self.invariant

pub returns-in-Ok : goal.returns-in-Ok
returns-in-Ok g c =
    let i = c.self.inside in
    let p' = c.compact-compacted.new.self in
    IsObeyed-entered _ i.pass p' i.pending i.pending i.over i.over c.args.self.now c.self.view_is (command.Change change.Compact) c.requires.over refl _
    (Enters-compact _ i.pass p' i.pending c.know.ensures.events c.know.ensures.start c.in-Ok.generation c.in-Ok.ensures.compacted)

pub returns-in-Err : goal.returns-in-Err
returns-in-Err g c =
    let i = c.self.inside in
    let p' = c.compact-compacted.new.self in
    IsObeyed-failed _ i.pass p' i.pending i.over c.refusal_reply.new.over (command.Change change.Compact) c.in-Err.fault
    (Fails-compact _ i.pass p' i.pending c.know.ensures.events c.know.ensures.start c.in-Err.fault c.in-Err.ensures.failed) c.args.self.now c.self.view_is refl c.requires.over c.refusal_reply.result c.refusal_reply.ensures
