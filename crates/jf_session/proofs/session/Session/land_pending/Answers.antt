use Rattle.std.proofs.Common.{refl}
use Rattle.jf_script.specs.declared.command.Command.TheVariants as command
use Rattle.jf_script.specs.declared.command.Change.TheVariants as change
use Rattle.jf_session.proofs.Entering.{IsSoundSession-entered}
use Rattle.jf_session.proofs.RefusedCalls.{IsSoundSession-failed}
use Rattle.jf_session.proofs.Changes.{Enters-commit, Fails-commit}
use Rattle.jf_session.proofs.ToldLandings.{commit_lands, failed_lands}
use Rattle.jf_session.proofs.session.Session.land_pending.Goals as goal

pub invariant_of-self : goal.invariant_of-self
invariant_of-self g c =
    let i = c.self.inside in
    let p' = c.commit-landed.new.self in
    let k = c.know.ensures in
    IsSoundSession-entered _ i.pass p' i.pending c.clear.new.self i.over i.over (command.Change change.Commit) _ c.self.invariant
    (Enters-commit _ i.pass p' i.pending k.events k.start c.in-Ok.batch c.in-Ok.ensures c.in-Ok-landed.landed c.in-Ok-landed.ensures.landed c.clear.new.self c.clear.ensures)

pub invariant_of-self-in-Err-landed : goal.invariant_of-self-in-Err-landed
invariant_of-self-in-Err-landed g c =
    let i = c.self.inside in
    let p' = c.commit-landed.new.self in
    let k = c.know.ensures in
    let fault = c.in-Err-landed.fault in
    IsSoundSession-failed _ i.pass p' i.pending i.over c.refusal_reply.new.over (command.Change change.Commit) fault
    (Fails-commit _ i.pass p' i.pending k.events k.start c.in-Ok.batch c.in-Ok.ensures fault c.in-Err-landed.ensures.failed) c.refusal_reply.result c.refusal_reply.ensures c.self.invariant

pub returns-in-Ok-landed-clause-landed : goal.returns-in-Ok-landed-clause-landed
returns-in-Ok-landed-clause-landed g c =
    let i = c.self.inside in
    let k = c.know.ensures in
    commit_lands c.args.store.now.start i.pass c.commit-landed.new.self i.pending i.over c.args.self.now c.self.view_is c.requires.over k.events k.start c.in-Ok.batch c.in-Ok.ensures c.in-Ok-landed.landed c.in-Ok-landed.ensures.landed
    c.clear.new.self c.clear.ensures

pub returns-in-Err-landed-clause-refused : goal.returns-in-Err-landed-clause-refused
returns-in-Err-landed-clause-refused g c =
    let i = c.self.inside in
    let p' = c.commit-landed.new.self in
    let k = c.know.ensures in
    let fault = c.in-Err-landed.fault in
    failed_lands c.args.store.now.start i.pass p' i.pending i.over c.args.self.now c.self.view_is c.requires.over (command.Change change.Commit) fault
    (Fails-commit _ i.pass p' i.pending k.events k.start c.in-Ok.batch c.in-Ok.ensures fault c.in-Err-landed.ensures.failed) refl c.refusal_reply.new.over c.refusal_reply.result c.refusal_reply.ensures
