use Rattle.std.proofs.Common.{List, ℕ, subst}
use Rattle.jf_script.specs.declared.command.Command.TheVariants as command
use Rattle.jf_script.specs.declared.command.OwnCommand.TheVariants as own_command
use Rattle.jf_session.specs.Steps.{IsObeyed}
use Rattle.jf_session.proofs.session.Session.put_copy.Goals as goal

pub returns-in-Ok-clause-obeyed : goal.returns-in-Ok-clause-obeyed
returns-in-Ok-clause-obeyed g c = λ start name key.
    subst (λ (v : List ℕ). IsObeyed start c.args.self.now c.put_at.new.self (command.Own (own_command.Put name v)) c.put_at.result) c.in-Ok.ensures (c.put_at.ensures.obeyed start name key)
