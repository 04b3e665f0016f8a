use Rattle.std.proofs.Common.{arith, length-append}
use Rattle.jf_io.proofs.SinkLaws.{cut_short-none}
use Rattle.jf_serve.specs.ServedTexts.{entry_line}
use Rattle.jf_serve.proofs.Refused.{on_err-always, entry_line-some}
use Rattle.jf_serve.proofs.report.write_line.Goals as goal

pub returns-in_err-write_entry-clause-cut_short : goal.returns-in_err-write_entry-clause-cut_short
returns-in_err-write_entry-clause-cut_short g c =
    on_err-always _ (cut_short-none _ _ (omega (arith, length-append c.args.held.now (entry_line c.args.entry.now), entry_line-some c.args.entry.now)))
