use Rattle.std.proofs.Common.{subst, Bool, option_map}
use Rattle.jf_disk.specs.declared.side.Side.TheVariants as side
use Rattle.jf_disk.proofs.CrashLaws.{idle_further}
use Rattle.jf_check.specs.Reading.{IsFileOf}
use Rattle.jf_check.proofs.FilesRead.{files_found_so}
use Rattle.jf_check.proofs.reading.files_of.Goals as goal

pub returns-in_err-file_on-2-clause-idle : goal.returns-in_err-file_on-2-clause-idle
returns-in_err-file_on-2-clause-idle g c = λ h told.
    let x = c.file_on.ensures.idle h told in
    let y = c.file_on-2.ensures.idle x.0 x.1 in
    (y.0, y.1, idle_further h x.0 y.0 x.2 y.2)

pub returns-clause-found : goal.returns-clause-found
returns-clause-found g c =
    files_found_so (g.D.Disk.missing c.args.disk.now) (g.D.Disk.history c.args.disk.now) (g.D.Disk.history c.file_on.new.disk) _ _
    (subst (λ (missing : Bool). IsFileOf (g.D.Disk.history c.args.disk.now) side.A missing (option_map (λ v. v.items) c.in_ok-file_on.field-0)) c.is_missing-a_missing.ensures c.in_ok-file_on.ensures.found)
    (subst (λ (missing : Bool). IsFileOf (g.D.Disk.history c.file_on.new.disk) side.B missing (option_map (λ v. v.items) c.in_ok-file_on-2.field-0)) c.is_missing-b_missing.ensures c.in_ok-file_on-2.ensures.found)
    c.file_on.ensures.idle

pub returns-clause-idle : goal.returns-clause-idle
returns-clause-idle g c = λ h told.
    let x = c.file_on.ensures.idle h told in
    let y = c.file_on-2.ensures.idle x.0 x.1 in
    (y.0, y.1, idle_further h x.0 y.0 x.2 y.2)
