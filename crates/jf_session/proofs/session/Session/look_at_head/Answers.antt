use Rattle.std.proofs.Common.{subst}
use Rattle.std.specs.Prelude.{IfErr}
use Rattle.jf_history.specs.Sessions.{Session}
use Rattle.jf_script.specs.declared.command.Base.TheVariants as base
use Rattle.jf_script.specs.declared.command.Command.TheVariants as command
use Rattle.jf_session.specs.Steps.{session_of, StopsFor}
use Rattle.jf_session.proofs.session.Session.look_at_head.Goals as goal

pub invariant_of-self : goal.invariant_of-self
invariant_of-self g c = c.head_of.ensures.sound c.self.inside.pending c.self.invariant

pub returns-clause-err : goal.returns-clause-err
returns-clause-err g c = λ q.
    let i = c.self.inside in
    let r = c.head_of in
    subst (λ (s : Session). IfErr r.result (StopsFor c.args.store.now.start s (session_of r.new.pass i.pending r.new.over) (command.Read base.Head q))) c.self.view_is (r.ensures.err i.pending q)
