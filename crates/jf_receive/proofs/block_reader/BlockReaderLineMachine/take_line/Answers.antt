use Rattle.jf_receive.proofs.LinesTaken.{line-taken, line-stopped}
use Rattle.jf_receive.proofs.block_reader.BlockReaderLineMachine.take_line.Goals as goal

pub returns-clause-ok : goal.returns-clause-ok
returns-clause-ok c = line-taken c.args.self.now c.line.new.self c.args.next.line.now c.args._out.now c.line.result c.long_lines_are_alike.ensures c.line.ensures.ok

pub returns-clause-err : goal.returns-clause-err
returns-clause-err c = λ whole given. line-stopped c.args.self.now c.line.new.self c.args.next.line.now whole c.line.result c.long_lines_are_alike.ensures given c.line.ensures.err
