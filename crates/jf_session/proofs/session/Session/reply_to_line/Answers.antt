use Rattle.std.proofs.Common.{ap, Err}
use Rattle.jf_script.proofs.BoundLaws.{command_of-IsBoundedCommand}
use Rattle.jf_session.proofs.OfLines.{syntax_replied, long_replied, obeyed_replied, obeyed_goes, obeyed_stops}
use Rattle.jf_session.proofs.session.Session.reply_to_line.Goals as goal

pub returns-in-Err-Syntax-clause-ok : goal.returns-in-Err-Syntax-clause-ok
returns-in-Err-Syntax-clause-ok g c =
    syntax_replied _ c.args.self.now c.args.line.now c.args.block.now c.know_own.ensures.pins c.know.ensures c.requires.over (c.in-Err-Syntax.ensures.syntax (ap (λ e. Err e) c.in-Err-Syntax.field-0-is))

pub returns-in-Err-LineTooLong-clause-ok : goal.returns-in-Err-LineTooLong-clause-ok
returns-in-Err-LineTooLong-clause-ok g c =
    long_replied _ c.args.self.now c.args.line.now c.args.block.now c.know_own.ensures.pins c.know.ensures c.requires.over (c.in-Err-LineTooLong.ensures.too_long.0 (ap (λ e. Err e) c.in-Err-LineTooLong.field-0-is))

pub reply_to_command-done-requires-clause-bounded : goal.reply_to_command-done-requires-clause-bounded
reply_to_command-done-requires-clause-bounded g c = λ κs le. command_of-IsBoundedCommand c.args.line.now _ c.in-Ok.ensures.found

pub returns-clause-ok : goal.returns-clause-ok
returns-clause-ok g c = obeyed_replied _ c.args.self.now c.reply_to_command-done.new.self c.args.line.now _ c.in-Ok.ensures.short c.in-Ok.ensures.found c.args.block.now c.reply_to_command-done.new.block c.reply_to_command-done.result c.know_own.ensures.number c.know_own-2.ensures.pins c.reply_to_command-done.ensures

pub returns-clause-goes_on : goal.returns-clause-goes_on
returns-clause-goes_on g c = obeyed_goes _ c.args.self.now c.reply_to_command-done.new.self c.args.line.now _ c.in-Ok.ensures.short c.in-Ok.ensures.found c.args.block.now c.reply_to_command-done.new.block c.reply_to_command-done.result c.reply_to_command-done.ensures

pub returns-clause-err : goal.returns-clause-err
returns-clause-err g c = obeyed_stops _ c.args.self.now c.reply_to_command-done.new.self c.args.line.now _ c.in-Ok.ensures.short c.in-Ok.ensures.found c.args.block.now c.reply_to_command-done.new.block c.reply_to_command-done.result c.know_own-2.ensures.pins c.reply_to_command-done.ensures
