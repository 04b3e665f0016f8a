use Rattle.std.proofs.Common.{◌≡◌, sym, ap, ◌∙◌, Err, inl, inr}
use Rattle.std.proofs.lemmas.Result.{err_from_is_err_and}
use Rattle.jf_disk.specs.Disk.{DiskState, content_on}
use Rattle.jf_disk.proofs.CrashLaws.{idle_now, idle_went, idle_failed, idle_further}
use Rattle.jf_frame.proofs.Beginning.{idle_stops}
use Rattle.jf_frame.specs.Framing.{records}
use Rattle.jf_pair.specs.declared.fault.PairFault.TheVariants as pair_fault
use Rattle.jf_trim.proofs.Cuts.{stops_after_idle}
use Rattle.jf_trim.proofs.cutting.cut_side.Goals as goal

pub returns-in_err-size-clause-stop : goal.returns-in_err-size-clause-stop
returns-in_err-size-clause-stop g c = λ h told.
    let x = idle_failed h _ _ told c.in_err-size.ensures.failed in
    (x.0, x.1, idle_stops c.args.side h x.0 (c.requires h told) x.2)

pub returns-then-size-le1-clause-stop : goal.returns-then-size-le1-clause-stop
returns-then-size-le1-clause-stop g c = λ h told.
    let x = idle_went h _ _ told c.in_ok-size.ensures.ok in
    (x.0, x.1, idle_stops c.args.side h x.0 (c.requires h told) x.2)

pub returns-then-size-le1-clause-uncut : goal.returns-then-size-le1-clause-uncut
returns-then-size-le1-clause-uncut g c = λ h told _. idle_went h _ _ told c.in_ok-size.ensures.ok

pub returns-in_err-cut_to_gate-clause-stop : goal.returns-in_err-cut_to_gate-clause-stop
returns-in_err-cut_to_gate-clause-stop g c = λ h told.
    let x = idle_went h _ _ told c.in_ok-size.ensures.ok in
    let y = c.cut_to_gate.ensures.stop x.0 x.1 in
    (y.0, y.1, stops_after_idle c.args.side h x.0 y.0 (c.requires h told) x.2 y.2)

pub returns-in_err-cut_to_gate-clause-damaged : goal.returns-in_err-cut_to_gate-clause-damaged
returns-in_err-cut_to_gate-clause-damaged g c = λ h w at told e.
    let x = idle_went h _ _ told c.in_ok-size.ensures.ok in
    let p = err_from_is_err_and c.from_residual-in_err-cut_to_gate.result c.from_residual-in_err-cut_to_gate.ensures.1 in
    let was : c.cut_to_gate.result ≡ Err (pair_fault.Damaged w at) = (let was = c.in_err-cut_to_gate.was in cc) in
    ap (λ (s : DiskState). records (content_on c.args.side s).bytes) (sym (idle_now h x.0 x.2)) ∙ c.cut_to_gate.ensures.damaged x.0 w at x.1 was

pub returns-in_err-cut_to_gate-clause-err : goal.returns-in_err-cut_to_gate-clause-err
returns-in_err-cut_to_gate-clause-err g c = λ h why told e.
    let x = idle_went h _ _ told c.in_ok-size.ensures.ok in
    let p = err_from_is_err_and c.from_residual-in_err-cut_to_gate.result c.from_residual-in_err-cut_to_gate.ensures.1 in
    let was : c.cut_to_gate.result ≡ Err why = (let was = c.in_err-cut_to_gate.was in cc) in
    elim (c.cut_to_gate.ensures.err x.0 why x.1 was) [
      | inl fault ↦ inl fault
      | inr y ↦ inr (y.0, y.1, idle_further h x.0 y.0 x.2 y.2)
    ]

pub returns-clause-stop : goal.returns-clause-stop
returns-clause-stop g c = λ h told.
    let x = idle_went h _ _ told c.in_ok-size.ensures.ok in
    let y = c.cut_to_gate.ensures.stop x.0 x.1 in
    (y.0, y.1, stops_after_idle c.args.side h x.0 y.0 (c.requires h told) x.2 y.2)
