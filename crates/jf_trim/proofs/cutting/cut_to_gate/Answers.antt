use Rattle.std.proofs.Common.{◌≡◌, take, sym, ap, ◌∙◌, subst}
use Rattle.jf_disk.specs.Disk.{DiskState, content_on, durable}
use Rattle.jf_disk.proofs.CrashLaws.{idle_now, idle_told, told_before}
use Rattle.jf_frame.specs.Logs.{StopsInBegin, with_closed}
use Rattle.jf_frame.proofs.Beginning.{idle_stops}
use Rattle.jf_trim.proofs.Cuts.{stops_after_idle}
use Rattle.jf_trim.proofs.cutting.cut_to_gate.Goals as goal

pub returns-in_err-log-clause-stop : goal.returns-in_err-log-clause-stop
returns-in_err-log-clause-stop g c = λ h told.
    let x = c.read_side.ensures.idle h told in
    (x.0, x.1, idle_stops c.args.side h x.0 (c.requires h told) x.2)

pub begin-requires-clause-quiet : goal.begin-requires-clause-quiet
begin-requires-clause-quiet g c = λ κs lives k now.
    let b = told_before _ _ k c.read_side.ensures.calls.unknown now in
    let same : k.now ≡ b.0.now = idle_told b.0 k _ (c.read_side.ensures.idle b.0 b.1) now in
    subst (λ w. content_on w k.now ≡ durable (content_on w k.now).bytes) (sym c.in_ok-log.ensures.fresh.0)
    (subst (λ (s : DiskState). content_on c.args.side s ≡ durable (content_on c.args.side s).bytes) (sym same) (c.requires b.0 b.1))

pub returns-in_err-begin-clause-stop : goal.returns-in_err-begin-clause-stop
returns-in_err-begin-clause-stop g c = λ h told.
    let x = c.read_side.ensures.idle h told in
    let y = c.begin.ensures.stop x.0 x.1 in
    (y.0, y.1, stops_after_idle c.args.side h x.0 y.0 (c.requires h told) x.2 (subst (λ w. StopsInBegin w x.0 y.0) c.in_ok-log.ensures.fresh.0 y.2))

pub returns-clause-cut : goal.returns-clause-cut
returns-clause-cut g c = λ h told.
    let x = c.read_side.ensures.idle h told in
    let y = c.in_ok-begin.ensures.bytes x.0 x.1 in
    let w = c.args.side in (
      y.0,
      y.1,
      subst (λ w. content_on w y.0.now ≡ durable (take 1 (with_closed (content_on w x.0.now).bytes))) c.in_ok-log.ensures.fresh.0 y.2
          ∙ ap (λ (s : DiskState). durable (take 1 (with_closed (content_on w s).bytes))) (idle_now h x.0 x.2),
    )

pub returns-clause-stop : goal.returns-clause-stop
returns-clause-stop g c = λ h told.
    let x = c.read_side.ensures.idle h told in
    let y = c.begin.ensures.stop x.0 x.1 in
    (y.0, y.1, stops_after_idle c.args.side h x.0 y.0 (c.requires h told) x.2 (subst (λ w. StopsInBegin w x.0 y.0) c.in_ok-log.ensures.fresh.0 y.2))
