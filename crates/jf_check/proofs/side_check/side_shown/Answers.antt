-- A log that was read ends within the side, and the side is as it was.
use Rattle.std.proofs.Common.{◌≤◌, ◌-◌, length, refl, subst, sym}
use Rattle.jf_disk.specs.Memory.{history_of}
use Rattle.jf_frame.specs.Framing.{end_of}
use Rattle.jf_check.proofs.Ends.{end_within, still_now}
use Rattle.jf_check.proofs.side_check.side_shown.Goals as goal

pub log_check-requires : goal.log_check-requires
log_check-requires c =
    let read = c.in-Ok.ensures.read (history_of c.args.disk.now) refl in
    subst (λ xs. end_of c.in-Ok.log.records ≤ length xs - 1) (sym c.bytes.ensures) (end_within _ c.in-Ok.log.records read.held)

pub returns-in-Ok-clause-unchanged : goal.returns-in-Ok-clause-unchanged
returns-in-Ok-clause-unchanged c = still_now (history_of c.args.disk.now) (history_of c.read_all.new.disk) (c.in-Ok.ensures.idle (history_of c.args.disk.now) refl)

pub returns-in-Err-Damaged-clause-unchanged : goal.returns-in-Err-Damaged-clause-unchanged
returns-in-Err-Damaged-clause-unchanged c = still_now (history_of c.args.disk.now) (history_of c.read_all.new.disk) (c.in-Err-Damaged.ensures.idle (history_of c.args.disk.now) refl)

pub returns-in-Err-DiskFault : goal.returns-in-Err-DiskFault
returns-in-Err-DiskFault c = record { shown = tt; unchanged = still_now (history_of c.args.disk.now) (history_of c.read_all.new.disk) (c.read_all.ensures.idle (history_of c.args.disk.now) refl) }
