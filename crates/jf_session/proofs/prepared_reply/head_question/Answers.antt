use Rattle.std.proofs.Common.{◌≡◌}
use Rattle.std.specs.Prelude.{Some}
use Rattle.jf_script.specs.declared.command.Base.TheVariants as base
use Rattle.jf_script.specs.declared.command.Command.TheVariants as command
use Rattle.jf_script.specs.Commands.{command_of}
use Rattle.jf_script.proofs.BoundLaws.{command_of-IsBoundedCommand}
use Rattle.jf_session.proofs.prepared_reply.head_question.Goals as goal

pub returns-in-Ok-Read-Head-default : goal.returns-in-Ok-Read-Head-default
returns-in-Ok-Read-Head-default c =
    let i = c.in-Ok-Read-Head-default in
    let found = i.ensures.found in
    let is = i.field-0-is in
    let head = i.field-0-0-is in
    let reads : command_of c.args.line.now ≡ Some (command.Read base.Head i.question) = cc in
    record { short = i.ensures.short; reads = reads; bounded = command_of-IsBoundedCommand c.args.line.now (command.Read base.Head i.question) reads }
