use Rattle.std.proofs.Common.{[], refl, inr}
use Rattle.jf_script.specs.declared.command.Command.TheVariants as command
use Rattle.jf_session.specs.Steps.{session_of}
use Rattle.jf_session.proofs.BaseLaws.{IsSoundSession-seen}
use Rattle.jf_session.proofs.RefusedCalls.{IsObeyed-failed, IsSoundSession-failed}
use Rattle.jf_session.proofs.ReadLaws.{look_done, Fails-look, unmarked-granted}
use Rattle.jf_session.proofs.status.numbers_of.Goals as goal

pub returns-in-Ok-clause-sound : goal.returns-in-Ok-clause-sound
returns-in-Ok-clause-sound g c = λ pending sound.
    let p' = c.look.new.self in
    IsSoundSession-seen c.args.pass.now p' pending pending c.args.over.now c.args.over.now sound c.look.ensures.sees (inr (unmarked-granted p' [] [] tt c.in-Ok.ensures.granted))

pub returns-in-Ok-clause-obeyed : goal.returns-in-Ok-clause-obeyed
returns-in-Ok-clause-obeyed g c = λ pending.
    let p = c.args.pass.now in
    let over = c.args.over.now in
    look_done c.args.store.now.start p c.look.new.self pending over over (session_of p pending over) refl c.look.ensures.sees c.in-Ok.ensures.granted c.requires.over c.in-Ok.look c.status_reply.result c.in-Ok.ensures.look c.status_reply.ensures

pub returns-in-Err-clause-sound : goal.returns-in-Err-clause-sound
returns-in-Err-clause-sound g c = λ pending sound.
    let p = c.args.pass.now in
    let p' = c.look.new.self in
    IsSoundSession-failed c.args.store.now.start p p' pending c.args.over.now c.refusal_reply.new.over command.Look c.in-Err.fault (Fails-look c.args.store.now.start p p' pending c.look.ensures.sees c.in-Err.fault c.in-Err.ensures.refused)
    c.refusal_reply.result c.refusal_reply.ensures sound

pub returns-in-Err-clause-obeyed : goal.returns-in-Err-clause-obeyed
returns-in-Err-clause-obeyed g c = λ pending.
    let p = c.args.pass.now in
    let p' = c.look.new.self in
    let over = c.args.over.now in
    IsObeyed-failed c.args.store.now.start p p' pending over c.refusal_reply.new.over command.Look c.in-Err.fault (Fails-look c.args.store.now.start p p' pending c.look.ensures.sees c.in-Err.fault c.in-Err.ensures.refused)
    (session_of p pending over) refl refl c.requires.over c.refusal_reply.result c.refusal_reply.ensures
