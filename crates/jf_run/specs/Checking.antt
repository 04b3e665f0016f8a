-- What the program promises of a call in the mode `check`, which opens no store.
use Rattle.std.specs.Prelude.{◌≡◌, ◌⊎◌, ◌≤◌, ◌+◌, ℕ, [], None, Result}
use Rattle.jf_disk.specs.Crashes.{Idles}
use Rattle.jf_disk.specs.declared.side.Side.{Side}
use Rattle.jf_check.specs.Written.{ChecksDisk}
use Rattle.jf_check.specs.declared.fault.Unchecked.{Unchecked}
use Rattle.jf_check.specs.declared.store_check.StoreCheck.{StoreCheck}
use Rattle.jf_engine.specs.Openings.{OnHistories}
use Rattle.jf_run.specs.Calls.{ProgramCall, Steady}
use Rattle.jf_run.specs.Outcomes.{IsDoneOrMemory}
use Rattle.jf_run.specs.Statuses.{status_of_check}
use Rattle.jf_run.specs.declared.status.Status.TheVariants as status

-- a call that wrote what the files of the disk show, as far as the status says, and has no entries. The lines are those of the bytes that a
-- read gave before the call; the status is that of what both files represent (`told`, `status_is`). At most four calls were
-- made on the disk, and its history gained only states that are the same as the last one (`moments`, `idle`); none of them
-- failed, unless the status says so (`calm`). No input was read. If the disk failed or memory ran out, nothing was written
-- (`silent`). If sink and disk didn't fail, the files were reported, sound or damaged, or memory ran out (`complete`)
pub record IsCheckedCall (c : ProgramCall) : Type 0 where
  pub start : c.start ≡ None
  pub entries : c.entries ≡ []
  pub outcome : Result StoreCheck Unchecked
  pub status_is : c.status ≡ status_of_check outcome
  pub told : ChecksDisk outcome c.missing c.before.disk.history c.before.text c.after.text
  pub idle : OnHistories c.before.disk.history c.after.disk.history Idles
  pub moments : c.after.disk.moment ≤ c.before.disk.moment + 4
  pub calm : (c.status ≡ status.DiskFault → ⊥) → c.after.disk.faults ≡ c.before.disk.faults
  pub unread : (c.after.rest ≡ c.before.rest) × (c.after.source_faults ≡ c.before.source_faults)
  pub silent : (c.status ≡ status.DiskFault) ⊎ (c.status ≡ status.Memory) → (c.after.text ≡ c.before.text) × (c.after.sink_faults ≡ c.before.sink_faults)
  pub complete : Steady c.before.sink_faults c.after.sink_faults → Steady c.before.disk.faults c.after.disk.faults
      → IsDoneOrMemory c.status ⊎ ((side : Side) × (at : ℕ) × (c.status ≡ status.Damaged side at))
