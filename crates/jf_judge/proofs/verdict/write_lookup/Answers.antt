use Rattle.std.proofs.Common.{refl}
use Rattle.jf_judge.proofs.VerdictLines.{value-line}
use Rattle.jf_judge.proofs.verdict.write_lookup.Goals as goal

pub returns-in-Value : goal.returns-in-Value
returns-in-Value c = rw c.in-Value.is (value-line c.in-Value.digits.now _ c.write_value.result c.args.out.now c.write_value.new.out refl c.write_value.ensures)
