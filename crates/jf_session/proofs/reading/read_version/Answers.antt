use Rattle.std.proofs.Common.{refl, inr}
use Rattle.jf_script.specs.declared.command.Base.TheVariants as base
use Rattle.jf_store.specs.Ledgers.{state_after_events}
use Rattle.jf_store.specs.Refusals.{version_faults}
use Rattle.jf_answers.specs.Refusals.{version_causes}
use Rattle.jf_session.specs.Steps.{session_of}
use Rattle.jf_session.proofs.ToldFaults.{AreTold-version}
use Rattle.jf_session.proofs.BaseLaws.{IsSoundSession-seen}
use Rattle.jf_session.proofs.ReadLaws.{unmarked-granted}
use Rattle.jf_session.proofs.StoredReads.{read_sound, read_refused, read_done}
use Rattle.jf_session.proofs.reading.read_version.Goals as goal

pub returns-in-Ok-clause-sound : goal.returns-in-Ok-clause-sound
returns-in-Ok-clause-sound g c = λ pending sound.
    let p' = c.at.new.self in
    let s = state_after_events c.args.store.now.start p'.seen in
    let w = c.args.version in
    IsSoundSession-seen c.args.pass.now p' pending pending c.args.over.now c.args.over.now sound c.at.ensures.sees (inr (unmarked-granted p' (version_faults w s) (version_causes s w) (AreTold-version s w) c.in-Ok.ensures.granted))

pub returns-in-Ok-clause-obeyed : goal.returns-in-Ok-clause-obeyed
returns-in-Ok-clause-obeyed g c = λ pending.
    let p = c.args.pass.now in
    let p' = c.at.new.self in
    let over = c.args.over.now in
    let s = state_after_events c.args.store.now.start p'.seen in
    let w = c.args.version in
    let a = c.answer_question in
    read_done c.args.store.now.start p p' pending over over (base.Version w) (base.Version w) c.args.question c.at.ensures.sees refl (version_faults w s) (AreTold-version s w) (session_of p pending over) refl c.requires.over refl
    c.in-Ok.ensures.granted refl c.in-Ok.snapshot.map c.in-Ok.ensures.read.0 c.args.block.now a.new.block a.result a.ensures

pub returns-in-Err-clause-sound : goal.returns-in-Err-clause-sound
returns-in-Err-clause-sound g c = λ pending sound.
    let p' = c.at.new.self in
    let s = state_after_events c.args.store.now.start p'.seen in
    let w = c.args.version in
    read_sound c.args.store.now.start c.args.pass.now p' pending c.args.over.now c.refusal_reply.new.over (base.Version w) (base.Version w) c.args.question c.at.ensures.sees refl (version_faults w s) (AreTold-version s w)
    c.in-Err.fault c.in-Err.ensures.refused c.refusal_reply.result c.refusal_reply.ensures sound

pub returns-in-Err-clause-obeyed : goal.returns-in-Err-clause-obeyed
returns-in-Err-clause-obeyed g c = λ pending.
    let p = c.args.pass.now in
    let p' = c.at.new.self in
    let over = c.args.over.now in
    let s = state_after_events c.args.store.now.start p'.seen in
    let w = c.args.version in
    read_refused c.args.store.now.start p p' pending over c.refusal_reply.new.over (base.Version w) (base.Version w) c.args.question c.at.ensures.sees refl (version_faults w s) (AreTold-version s w) (session_of p pending over) refl
    c.requires.over refl c.in-Err.fault c.in-Err.ensures.refused c.args.block.now c.refusal_reply.result c.refusal_reply.ensures
