use Rattle.jf_script.specs.declared.command.Command.TheVariants as command
use Rattle.jf_script.specs.declared.command.Change.TheVariants as change
use Rattle.jf_session.proofs.ToldLandings.{commit_led, refused_led}
use Rattle.jf_session.proofs.session.Session.commit_with_blocks.Goals as goal

pub returns-in-Ok : goal.returns-in-Ok
returns-in-Ok g c =
    let t = c.tell_block in
    commit_led c.args.store.now.start c.args.self.now c.land_pending.new.self c.in-Ok.landed c.in-Ok.batch c.in-Ok.ensures.landed t.ensures.sound c.args.told.now t.new.told t.result t.ensures.ok t.ensures.err

pub returns-in-Err : goal.returns-in-Err
returns-in-Err g c = refused_led c.args.store.now.start c.args.self.now c.land_pending.new.self (command.Change change.Commit) c.in-Err.refused c.in-Err.ensures.refused c.args.told.now c.discard_reply.result c.discard_reply.ensures
