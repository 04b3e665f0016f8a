use Rattle.std.proofs.Common.{[], refl, inr}
use Rattle.jf_script.specs.declared.command.Base.TheVariants as base
use Rattle.jf_script.specs.declared.command.Question.TheVariants as question
use Rattle.jf_session.proofs.BaseLaws.{IsSoundSession-seen}
use Rattle.jf_session.proofs.ReadLaws.{unmarked-granted}
use Rattle.jf_session.proofs.StoredReads.{read_sound}
use Rattle.jf_session.proofs.looking.head_of.Goals as goal

pub returns-in-Ok-clause-sound : goal.returns-in-Ok-clause-sound
returns-in-Ok-clause-sound g c = λ pending sound.
    let p' = c.look.new.self in
    IsSoundSession-seen c.args.pass.now p' pending pending c.args.over.now c.args.over.now sound c.look.ensures.sees (inr (unmarked-granted p' [] [] tt c.in-Ok.ensures.granted))

pub returns-in-Err-refusal_reply-clause-sound : goal.returns-in-Err-refusal_reply-clause-sound
returns-in-Err-refusal_reply-clause-sound g c = λ pending sound.
    read_sound c.args.store.now.start c.args.pass.now c.look.new.self pending c.args.over.now c.refusal_reply.new.over base.Head base.Head question.Root c.look.ensures.sees refl [] tt c.in-Err.fault c.in-Err.ensures.refused
    c.refusal_reply.result c.refusal_reply.ensures sound
