use Rattle.jf_script.specs.declared.command.Command.TheVariants as command
use Rattle.jf_session.proofs.ReadLaws.{obeyed_plainly}
use Rattle.jf_session.proofs.session.Session.reply_to_command.Goals as goal

pub returns-in-Own : goal.returns-in-Own
returns-in-Own g c = obeyed_plainly c.args.store.now.start c.args.self.now c.own_command.new.self c.args.command (command.Own c.in-Own.own) c.args.block.now c.own_command.result c.in-Own.is c.own_command.ensures

pub returns-in-ReadFork : goal.returns-in-ReadFork
returns-in-ReadFork g c =
    let q = c.in-ReadFork in
    obeyed_plainly c.args.store.now.start c.args.self.now c.read_fork.new.self c.args.command (command.ReadFork q.id q.question) c.args.block.now c.read_fork.result q.is c.read_fork.ensures

pub returns-in-Look : goal.returns-in-Look
returns-in-Look g c = obeyed_plainly c.args.store.now.start c.args.self.now c.status.new.self c.args.command command.Look c.args.block.now c.status.result c.in-Look.is c.status.ensures

pub returns-in-Pin : goal.returns-in-Pin
returns-in-Pin g c = obeyed_plainly c.args.store.now.start c.args.self.now c.pin.new.self c.args.command (command.Pin c.in-Pin.version) c.args.block.now c.pin.result c.in-Pin.is c.pin.ensures

pub returns-in-Change : goal.returns-in-Change
returns-in-Change g c = obeyed_plainly c.args.store.now.start c.args.self.now c.change.new.self c.args.command (command.Change c.in-Change.change) c.args.block.now c.change.result c.in-Change.is c.change.ensures
