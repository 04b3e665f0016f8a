use Rattle.std.proofs.Common.{subst, sym, Bool, None}
use Rattle.jf_check.specs.Reading.{IsFileOf}
use Rattle.jf_check.proofs.FilesRead.{missing_file}
use Rattle.jf_check.proofs.reading.file_on.Goals as goal

pub returns-then-missing-clause-found : goal.returns-then-missing-clause-found
returns-then-missing-clause-found g c =
    subst (λ (missing : Bool). IsFileOf (g.D.Disk.history c.args.disk.now) c.args.side missing None) (sym c.if-missing.true) (missing_file (g.D.Disk.history c.args.disk.now) c.args.side)
