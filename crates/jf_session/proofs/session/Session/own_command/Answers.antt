use Rattle.std.proofs.Common.{ap, sym, ◌∙◌, subst}
use Rattle.jf_script.specs.declared.command.OwnCommand.{OwnCommand}
use Rattle.jf_script.specs.declared.command.OwnCommand.TheVariants as own_command
use Rattle.jf_script.specs.declared.command.Command.TheVariants as command
use Rattle.jf_session.specs.Steps.{IsObeyed}
use Rattle.jf_session.proofs.session.Session.own_command.Goals as goal

pub returns-in-Put : goal.returns-in-Put
returns-in-Put g c =
    let start = c.args.store.now.start in
    let is = c.in-Put.is ∙ ap (λ name. own_command.Put name c.in-Put.value) (sym c.as_slice.ensures) in
    subst (λ (o : OwnCommand). IsObeyed start c.args.self.now c.put.new.self (command.Own o) c.put.result) (sym is) (c.put.ensures start)

pub returns-in-Del : goal.returns-in-Del
returns-in-Del g c =
    let start = c.args.store.now.start in
    let is = c.in-Del.is ∙ ap (λ name. own_command.Del name) (sym c.as_slice-in-Del.ensures) in
    subst (λ (o : OwnCommand). IsObeyed start c.args.self.now c.del.new.self (command.Own o) c.del.result) (sym is) (c.del.ensures start)
