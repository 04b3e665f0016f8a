use Rattle.jf_names.proofs.NameLineLaws.{line-taken, line-stopped}
use Rattle.jf_names.proofs.name_reader.NameReaderLineMachine.take_line.Goals as goal

pub returns-clause-ok : goal.returns-clause-ok
returns-clause-ok c = line-taken c.args.self.now c.line.new.self c.args.at.line.now c.args._out.now c.line.result c.line.ensures.ok

pub returns-clause-err : goal.returns-clause-err
returns-clause-err c = λ whole given. line-stopped c.args.self.now c.line.new.self c.args.at.line.now whole c.line.result given c.line.ensures.err
