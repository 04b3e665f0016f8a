use Rattle.std.proofs.Common.{[], refl, inr}
use Rattle.jf_script.specs.declared.command.Base.TheVariants as base
use Rattle.jf_session.specs.Steps.{session_of}
use Rattle.jf_session.proofs.BaseLaws.{IsSoundSession-seen}
use Rattle.jf_session.proofs.ReadLaws.{unmarked-granted}
use Rattle.jf_session.proofs.StoredReads.{read_sound, read_refused, read_done}
use Rattle.jf_session.proofs.reading.read_head.Goals as goal

pub returns-in-Ok-clause-sound : goal.returns-in-Ok-clause-sound
returns-in-Ok-clause-sound g c = λ pending sound.
    let p = c.args.pass.now in
    let p' = c.look.new.self in
    IsSoundSession-seen p p' pending pending c.args.over.now c.args.over.now sound c.look.ensures.sees (inr (unmarked-granted p' [] [] tt c.in-Ok.ensures.granted))

pub returns-in-Ok-clause-obeyed : goal.returns-in-Ok-clause-obeyed
returns-in-Ok-clause-obeyed g c = λ pending.
    let p = c.args.pass.now in
    let over = c.args.over.now in
    let a = c.answer_question in
    read_done c.args.store.now.start p c.look.new.self pending over over base.Head base.Head c.args.question c.look.ensures.sees refl [] tt (session_of p pending over) refl c.requires.over refl
    c.in-Ok.ensures.granted refl c.in-Ok.look.head.map c.in-Ok.ensures.look.map c.args.block.now a.new.block a.result a.ensures

pub returns-in-Err-clause-sound : goal.returns-in-Err-clause-sound
returns-in-Err-clause-sound g c = λ pending sound.
    read_sound c.args.store.now.start c.args.pass.now c.look.new.self pending c.args.over.now c.refusal_reply.new.over base.Head base.Head c.args.question c.look.ensures.sees refl [] tt c.in-Err.fault c.in-Err.ensures.refused
    c.refusal_reply.result c.refusal_reply.ensures sound

pub returns-in-Err-clause-obeyed : goal.returns-in-Err-clause-obeyed
returns-in-Err-clause-obeyed g c = λ pending.
    let p = c.args.pass.now in
    let over = c.args.over.now in
    read_refused c.args.store.now.start p c.look.new.self pending over c.refusal_reply.new.over base.Head base.Head c.args.question c.look.ensures.sees refl [] tt (session_of p pending over) refl c.requires.over refl
    c.in-Err.fault c.in-Err.ensures.refused c.args.block.now c.refusal_reply.result c.refusal_reply.ensures
