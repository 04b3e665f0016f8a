-- What the program promises of a call that opened no store.
use Rattle.std.specs.Prelude.{◌≡◌, [], ◌⊎◌, IsTrue, IsFalse}
use Rattle.jf_model.specs.Versions.{Versions}
use Rattle.jf_disk.specs.Disk.{reads}
use Rattle.jf_disk.specs.Crashes.{LeavesFiles}
use Rattle.jf_files.specs.Files.{StandsFor}
use Rattle.jf_files.specs.Steps.{Opens, StopsWell, IsCalm}
use Rattle.jf_files.specs.Begun.{IsBegunOver}
use Rattle.jf_engine.specs.Openings.{OnHistories}
use Rattle.jf_words.specs.Shapes.{IsIdleWithoutStore, asked_shape}
use Rattle.jf_run.specs.Calls.{ProgramCall}
use Rattle.jf_run.specs.Outcomes.{IfSteady, StandsAfter}
use Rattle.jf_run.specs.Resuming.{IsAbsentCall}
use Rattle.jf_run.specs.Statuses.{is_disk_fault, may_end_unopened}
use Rattle.jf_run.specs.declared.status.Status.TheVariants as status

-- a call that opened no store. It has no entries, and the files are unchanged (`unchanged`), except that a disk that failed may have
-- initialised files without a record. They represent what they represented; on a calm disk so does what a crash at any time
-- leaves. Without a fault of a device over sound files only lack of memory keeps a mode from opening the store (`complete`),
-- unless it was to resume one and there is none
pub record IsClosedCall (c : ProgramCall) : Type 0 where
  pub ending : IsIdleWithoutStore c.asks → IsTrue (may_end_unopened c.status) ⊎ IsAbsentCall c
  pub entries : c.entries ≡ []
  pub left : OnHistories c.before.disk.history c.after.disk.history (λ h g. LeavesFiles h g ⊎ ((c.status ≡ status.DiskFault) × IsBegunOver h g))
  pub stands : OnHistories c.before.disk.history c.after.disk.history (λ h g. (v : Versions) → StandsFor (reads h) v → StandsFor (reads g) v)
  pub stops : OnHistories c.before.disk.history c.after.disk.history (λ h g. (v : Versions) → IsCalm h → StandsFor (reads h) v → StopsWell Opens h g v)
  pub unchanged : IsFalse (is_disk_fault c.status) → StandsAfter c
  pub complete : IsTrue (asked_shape c.asks).opens → IfSteady c ((c.status ≡ status.Memory) ⊎ IsAbsentCall c)
