use Rattle.std.proofs.Common.{rules, ◌≡◌, ap, sym, subst, Result, Err}
use Rattle.jf_check.specs.declared.fault.Unchecked.{Unchecked}
use Rattle.jf_check.specs.declared.store_check.StoreCheck.{StoreCheck}
use Rattle.jf_check.specs.Written.{ChecksDisk}
use Rattle.jf_check.proofs.DiskChecks.{checked_disk, store_of_disk, unchecked_disk}
use Rattle.jf_check.proofs.check.check_disk.Goals as goal

pub returns-clause-written : goal.returns-clause-written
returns-clause-written g c = checked_disk _ (g.D.Disk.missing c.args.disk.now) (g.D.Disk.history c.args.disk.now) _ _ _ _ c.in_ok-a.ensures.found c.check_files.ensures.written

pub returns-clause-store : goal.returns-clause-store
returns-clause-store g c = λ h told.
    store_of_disk _ (g.D.Disk.missing c.args.disk.now) (g.D.Disk.history c.args.disk.now) _ _ _ _ h told (λ w missing. c.know_absent.ensures h w told missing) c.in_ok-a.ensures.found c.check_files.ensures.written

pub returns-in_err-a-clause-written : goal.returns-in_err-a-clause-written
returns-in_err-a-clause-written g c =
    let is : c.from_residual.result ≡ Err c.in_err-a.field-0.0 = search rules in
    subst (λ (r : Result StoreCheck Unchecked). ChecksDisk r (g.D.Disk.missing c.args.disk.now) (g.D.Disk.history c.args.disk.now) (g.K.Sink.text c.args.sink.now) (g.K.Sink.text c.args.sink.now)) (sym is)
    (unchecked_disk c.in_err-a.field-0.0 (g.D.Disk.missing c.args.disk.now) (g.D.Disk.history c.args.disk.now) (g.K.Sink.text c.args.sink.now) (λ e. c.in_err-a.ensures.unstopped (ap (λ f. Err f) e)))
