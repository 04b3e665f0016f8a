use Rattle.std.proofs.Common.{List, ℕ, subst}
use Rattle.jf_script.specs.declared.command.Command.TheVariants as command
use Rattle.jf_script.specs.declared.command.OwnCommand.TheVariants as own_command
use Rattle.jf_session.specs.Steps.{IsObeyed}
use Rattle.jf_session.proofs.session.Session.put.Goals as goal

pub returns : goal.returns
returns g c = λ start.
    subst (λ (v : List ℕ). IsObeyed start c.args.self.now c.put_at.new.self (command.Own (own_command.Put c.args.name.now v)) c.put_at.result) c.in-Ok.ensures (c.put_at.ensures.obeyed start c.args.name.now c.key_of.ensures)
