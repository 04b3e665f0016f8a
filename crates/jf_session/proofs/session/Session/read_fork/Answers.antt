use Rattle.std.proofs.Common.{subst}
use Rattle.jf_history.specs.Sessions.{Session}
use Rattle.jf_script.specs.declared.command.Command.TheVariants as command
use Rattle.jf_session.specs.Steps.{session_of, IsObeyed}
use Rattle.jf_session.proofs.session.Session.read_fork.Goals as goal

pub invariant_of-self : goal.invariant_of-self
invariant_of-self g c = c.read_tree.ensures.sound c.self.inside.pending c.self.invariant

pub returns : goal.returns
returns g c =
    let i = c.self.inside in
    let r = c.read_tree in
    subst (λ (s : Session). IsObeyed c.args.store.now.start s (session_of r.new.pass i.pending r.new.over) (command.ReadFork c.args.id c.args.question) r.result) c.self.view_is (r.ensures.obeyed i.pending)
