use Rattle.std.proofs.Common.{refl}
use Rattle.jf_script.specs.declared.command.Command.TheVariants as command
use Rattle.jf_script.specs.declared.command.Change.TheVariants as change
use Rattle.jf_session.proofs.Entering.{IsSoundSession-entered}
use Rattle.jf_session.proofs.RefusedCalls.{IsSoundSession-failed}
use Rattle.jf_session.proofs.Changes.{Enters-land, Fails-land}
use Rattle.jf_session.proofs.LandedBlocks.{chain_each, chain_last}
use Rattle.jf_session.proofs.ToldLandings.{land_led, failed_led}
use Rattle.jf_session.proofs.session.Session.land_with_blocks.Goals as goal

pub tell_chain-requires-clause-long : goal.tell_chain-requires-clause-long
tell_chain-requires-clause-long g c = chain_each c.args.store.now.start c.self.inside.pass c.land_chain-landed.new.self c.args.id c.in-Ok.chain c.in-Ok.ensures.landed

pub tell_chain-requires-clause-bounded : goal.tell_chain-requires-clause-bounded
tell_chain-requires-clause-bounded g c = chain_last c.args.store.now.start c.self.inside.pass c.land_chain-landed.new.self c.args.id c.in-Ok.chain c.in-Ok.ensures.landed

pub invariant_of-self : goal.invariant_of-self
invariant_of-self g c =
    let i = c.self.inside in
    let p' = c.land_chain-landed.new.self in
    IsSoundSession-entered _ i.pass p' i.pending i.pending i.over i.over (command.Change (change.Land c.args.id)) _ c.self.invariant
    (Enters-land _ i.pass p' i.pending c.know.ensures.events c.know.ensures.start c.args.id c.in-Ok.chain.landed c.in-Ok.ensures.landed.landed)

pub invariant_of-self-in-Err : goal.invariant_of-self-in-Err
invariant_of-self-in-Err g c =
    let i = c.self.inside in
    let p' = c.land_chain-landed.new.self in
    IsSoundSession-failed _ i.pass p' i.pending i.over c.refusal_reply.new.over (command.Change (change.Land c.args.id)) c.in-Err.fault
    (Fails-land _ i.pass p' i.pending c.know.ensures.events c.know.ensures.start c.args.id c.in-Err.fault c.in-Err.ensures.failed) c.refusal_reply.result c.refusal_reply.ensures c.self.invariant

pub returns-in-Ok : goal.returns-in-Ok
returns-in-Ok g c =
    let i = c.self.inside in
    let t = c.tell_chain in
    land_led c.args.store.now.start i.pass c.land_chain-landed.new.self i.pending i.over c.args.self.now c.self.view_is c.requires.over c.know.ensures.events c.know.ensures.start c.args.id c.in-Ok.chain c.in-Ok.ensures.landed t.ensures.sound
    c.args.told.now t.new.told t.result t.ensures.ok t.ensures.err

pub returns-in-Err : goal.returns-in-Err
returns-in-Err g c =
    let i = c.self.inside in
    let p' = c.land_chain-landed.new.self in
    failed_led c.args.store.now.start i.pass p' i.pending i.over c.args.self.now c.self.view_is c.requires.over (command.Change (change.Land c.args.id)) c.in-Err.fault
    (Fails-land _ i.pass p' i.pending c.know.ensures.events c.know.ensures.start c.args.id c.in-Err.fault c.in-Err.ensures.failed) refl c.refusal_reply.new.over c.refusal_reply.result c.refusal_reply.ensures c.args.told.now c.discard_reply.result c.discard_reply.ensures
