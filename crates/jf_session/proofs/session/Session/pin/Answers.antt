use Rattle.std.proofs.Common.{refl, ap, ◌∙◌}
use Rattle.jf_history.specs.Sessions.{Session}
use Rattle.jf_script.specs.declared.command.Command.TheVariants as command
use Rattle.jf_session.proofs.RefusedCalls.{IsObeyed-failed, IsSoundSession-failed}
use Rattle.jf_session.proofs.PinCalls.{IsSoundSession-pinned, IsDoneAs-pinned, Fails-pin}
use Rattle.jf_session.proofs.session.Session.pin.Goals as goal

pub invariant_of-self : goal.invariant_of-self
invariant_of-self g c =
    let i = c.self.inside in
    let p' = c.pin_version-pinned.new.self in
    IsSoundSession-pinned c.args.store.now.start i.pass p' i.pending c.args.version c.in-Ok.place c.in-Ok.ensures.pinned i.over i.over (ap (λ (q : Session). q.pass.start) c.self.view_is ∙ c.requires.own.1) c.self.invariant

pub invariant_of-self-in-Err : goal.invariant_of-self-in-Err
invariant_of-self-in-Err g c =
    let i = c.self.inside in
    let p' = c.pin_version-pinned.new.self in
    IsSoundSession-failed c.args.store.now.start i.pass p' i.pending i.over c.refusal_reply.new.over (command.Pin c.args.version) c.in-Err.fault
    (Fails-pin c.args.store.now.start i.pass p' i.pending c.args.version c.in-Err.fault c.in-Err.ensures.refused) c.refusal_reply.result c.refusal_reply.ensures c.self.invariant

pub returns-in-Ok : goal.returns-in-Ok
returns-in-Ok g c =
    let i = c.self.inside in
    let p' = c.pin_version-pinned.new.self in (
      IsDoneAs-pinned c.args.store.now.start i.pass p' i.pending c.args.version c.in-Ok.place c.in-Ok.ensures.pinned i.over i.over c.args.self.now c.self.view_is,
      ap (λ (s : Session). s.over) c.self.view_is ∙ c.requires.over,
    )

pub returns-in-Err : goal.returns-in-Err
returns-in-Err g c =
    let i = c.self.inside in
    let p' = c.pin_version-pinned.new.self in
    IsObeyed-failed c.args.store.now.start i.pass p' i.pending i.over c.refusal_reply.new.over (command.Pin c.args.version) c.in-Err.fault
    (Fails-pin c.args.store.now.start i.pass p' i.pending c.args.version c.in-Err.fault c.in-Err.ensures.refused) c.args.self.now c.self.view_is refl c.requires.over c.refusal_reply.result c.refusal_reply.ensures
