use Rattle.std.proofs.Common.{subst, [], Ok, Err}
use Rattle.std.specs.Prelude.{OnOk, IfErr}
use Rattle.jf_receive.specs.Steps.{Restoring}
use Rattle.jf_receive.specs.TakenLines.{TakesBlockLine}
use Rattle.jf_receive.proofs.LinesTaken.{line-accepted, line-refused}
use Rattle.jf_receive.proofs.block_reader.BlockReader.line.Goals as goal

pub returns-clause-ok : goal.returns-clause-ok
returns-clause-ok c =
    subst (λ (s : Restoring). OnOk c.line.result (TakesBlockLine s c.args.line.now c.line.new.self (Ok []))) c.self.view_is
    (line-accepted c.self.inside.blocks c.line.new.self c.args.line.now c.line.result c.line.ensures.answer c.line.ensures.after)

pub returns-clause-err : goal.returns-clause-err
returns-clause-err c =
    subst (λ (s : Restoring). IfErr c.line.result (λ why. TakesBlockLine s c.args.line.now c.line.new.self (Err why))) c.self.view_is
    (line-refused c.self.inside.blocks c.line.new.self c.args.line.now c.line.result c.line.ensures.answer c.line.ensures.after)
