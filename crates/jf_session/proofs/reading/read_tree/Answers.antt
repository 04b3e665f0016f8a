use Rattle.std.proofs.Common.{refl, inr}
use Rattle.jf_model.specs.Versions.{newest}
use Rattle.jf_model.specs.Forks.{fork_map}
use Rattle.jf_script.specs.declared.command.Command.TheVariants as command
use Rattle.jf_script.specs.Commands.{question_of}
use Rattle.jf_store.specs.Ledgers.{state_after_events}
use Rattle.jf_store.specs.Refusals.{fork_faults}
use Rattle.jf_answers.specs.Refusals.{fork_causes}
use Rattle.jf_session.specs.Steps.{session_of}
use Rattle.jf_session.proofs.Entering.{own_of}
use Rattle.jf_session.proofs.ToldFaults.{AreTold-fork}
use Rattle.jf_session.proofs.BaseLaws.{IsSoundSession-seen}
use Rattle.jf_session.proofs.RefusedCalls.{IsObeyed-failed, IsSoundSession-failed}
use Rattle.jf_session.proofs.ReadLaws.{ReadsMap-read_fork, call_plainly, Fails-asked, unmarked-granted}
use Rattle.jf_session.proofs.reading.read_tree.Goals as goal

pub returns-in-Ok-clause-sound : goal.returns-in-Ok-clause-sound
returns-in-Ok-clause-sound g c = λ pending sound.
    let p' = c.tree.new.self in
    let s = state_after_events c.args.store.now.start p'.seen in
    let id = c.args.id in
    IsSoundSession-seen c.args.pass.now p' pending pending c.args.over.now c.args.over.now sound c.tree.ensures.sees (inr (unmarked-granted p' (fork_faults id s) (fork_causes s id) (AreTold-fork s id) c.in-Ok.ensures.granted))

pub returns-in-Ok-clause-obeyed : goal.returns-in-Ok-clause-obeyed
returns-in-Ok-clause-obeyed g c = λ pending.
    let p = c.args.pass.now in
    let p' = c.tree.new.self in
    let over = c.args.over.now in
    let s = state_after_events c.args.store.now.start p'.seen in
    let id = c.args.id in
    let a = c.answer_fork_question in
    call_plainly c.args.store.now.start p p' pending over over (session_of p pending over) refl (command.ReadFork id c.args.question) c.tree.ensures.sees (fork_causes s id) (question_of c.args.question)
    (fork_map (newest s.all) s.forks id) (ReadsMap-read_fork s (own_of p pending) id c.args.question) (fork_faults id s) (AreTold-fork s id) refl c.in-Ok.ensures.granted c.requires.over c.in-Ok.tree c.in-Ok.ensures.read a.result a.ensures

pub returns-in-Err-clause-sound : goal.returns-in-Err-clause-sound
returns-in-Err-clause-sound g c = λ pending sound.
    let p = c.args.pass.now in
    let p' = c.tree.new.self in
    let s = state_after_events c.args.store.now.start p'.seen in
    let id = c.args.id in
    let q = c.args.question in
    IsSoundSession-failed c.args.store.now.start p p' pending c.args.over.now c.refusal_reply.new.over (command.ReadFork id q) c.in-Err.fault
    (Fails-asked c.args.store.now.start p p' pending (command.ReadFork id q) c.tree.ensures.sees (fork_causes s id) (question_of q) (fork_map (newest s.all) s.forks id) (ReadsMap-read_fork s (own_of p pending) id q)
    (fork_faults id s) (AreTold-fork s id) c.in-Err.fault c.in-Err.ensures.refused) c.refusal_reply.result c.refusal_reply.ensures sound

pub returns-in-Err-clause-obeyed : goal.returns-in-Err-clause-obeyed
returns-in-Err-clause-obeyed g c = λ pending.
    let p = c.args.pass.now in
    let p' = c.tree.new.self in
    let over = c.args.over.now in
    let s = state_after_events c.args.store.now.start p'.seen in
    let id = c.args.id in
    let q = c.args.question in
    IsObeyed-failed c.args.store.now.start p p' pending over c.refusal_reply.new.over (command.ReadFork id q) c.in-Err.fault
    (Fails-asked c.args.store.now.start p p' pending (command.ReadFork id q) c.tree.ensures.sees (fork_causes s id) (question_of q) (fork_map (newest s.all) s.forks id) (ReadsMap-read_fork s (own_of p pending) id q)
    (fork_faults id s) (AreTold-fork s id) c.in-Err.fault c.in-Err.ensures.refused) (session_of p pending over) refl refl c.requires.over c.refusal_reply.result c.refusal_reply.ensures
