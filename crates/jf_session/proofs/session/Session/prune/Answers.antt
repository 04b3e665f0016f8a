use Rattle.std.proofs.Common.{refl}
use Rattle.jf_script.specs.declared.command.Command.TheVariants as command
use Rattle.jf_script.specs.declared.command.Change.TheVariants as change
use Rattle.jf_session.proofs.Entering.{IsObeyed-entered, IsSoundSession-entered}
use Rattle.jf_session.proofs.RefusedCalls.{IsObeyed-failed, IsSoundSession-failed}
use Rattle.jf_session.proofs.PruneCalls.{Enters-prune, Fails-prune}
use Rattle.jf_session.proofs.session.Session.prune.Goals as goal

pub invariant_of-self : goal.invariant_of-self
invariant_of-self g c =
    let i = c.self.inside in
    let p' = c.prune-pruned.new.self in
    IsSoundSession-entered c.args.store.now.start i.pass p' i.pending i.pending i.over i.over (command.Change (change.Prune c.args.upto)) _ c.self.invariant
    (Enters-prune c.args.store.now i.pass p' i.pending c.know_pins.ensures.pins c.know_pins.ensures.long c.know.ensures.events c.args.upto c.in-Ok.pruned c.in-Ok.ensures.pruned)

pub invariant_of-self-in-Err : goal.invariant_of-self-in-Err
invariant_of-self-in-Err g c =
    let i = c.self.inside in
    let p' = c.prune-pruned.new.self in
    IsSoundSession-failed c.args.store.now.start i.pass p' i.pending i.over c.refusal_reply.new.over (command.Change (change.Prune c.args.upto)) c.in-Err.fault
    (Fails-prune c.args.store.now i.pass p' i.pending c.know_pins.ensures.pins c.know_pins.ensures.long c.know.ensures.events c.args.upto c.in-Err.fault c.in-Err.ensures.failed) c.refusal_reply.result c.refusal_reply.ensures c.self.invariant

pub returns-in-Ok : goal.returns-in-Ok
returns-in-Ok g c =
    let i = c.self.inside in
    let p' = c.prune-pruned.new.self in
    IsObeyed-entered c.args.store.now.start i.pass p' i.pending i.pending i.over i.over c.args.self.now c.self.view_is (command.Change (change.Prune c.args.upto)) c.requires.over refl _
    (Enters-prune c.args.store.now i.pass p' i.pending c.know_pins.ensures.pins c.know_pins.ensures.long c.know.ensures.events c.args.upto c.in-Ok.pruned c.in-Ok.ensures.pruned)

pub returns-in-Err : goal.returns-in-Err
returns-in-Err g c =
    let i = c.self.inside in
    let p' = c.prune-pruned.new.self in
    IsObeyed-failed c.args.store.now.start i.pass p' i.pending i.over c.refusal_reply.new.over (command.Change (change.Prune c.args.upto)) c.in-Err.fault
    (Fails-prune c.args.store.now i.pass p' i.pending c.know_pins.ensures.pins c.know_pins.ensures.long c.know.ensures.events c.args.upto c.in-Err.fault c.in-Err.ensures.failed) c.args.self.now c.self.view_is refl c.requires.over c.refusal_reply.result c.refusal_reply.ensures
