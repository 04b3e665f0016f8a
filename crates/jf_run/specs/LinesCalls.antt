-- What the program promises of a call that did lines over the store as its only session.
use Rattle.std.specs.Prelude.{ℕ, List, Option, IsFalse}
use Rattle.jf_model.specs.States.{State}
use Rattle.jf_model.specs.declared.entries.Entry.{Entry}
use Rattle.jf_files.specs.Steps.{IsCalm}
use Rattle.jf_engine.specs.Openings.{DiskView, OnHistories}
use Rattle.jf_run.specs.Calls.{ProgramCall}
use Rattle.jf_run.specs.Outcomes.{IfSteady, IsDoneOrMemory, StandsAfter}
use Rattle.jf_run.specs.Runs.{IsBegun, HasLasted}
use Rattle.jf_run.specs.Statuses.{is_disk_fault}
use Rattle.jf_run.specs.Stops.{IsSafeSince}

-- a call that opened the store, with this newest version and in this state, and did these lines over it as its only session. What a
-- crash leaves since the opening is said of the lines; on a calm disk it holds of any moment of the call. Unless the disk failed, the
-- files represent the result of the entries for the versions found (`stands`); if no device failed, all was done or memory
-- ran out (`complete`)
pub record IsLinesCall (c : ProgramCall) (head : ℕ) (s : State) (attempt : Option Entry) (done : List (List ℕ)) : Type 0 where
  pub disk : DiskView
  pub begun : IsBegun s c.before.disk disk head
  pub lasted : HasLasted s disk c.after.disk c.entries attempt done
  pub called : OnHistories c.before.disk.history c.after.disk.history (λ h g. IsCalm h → IsSafeSince c.before.disk.moment g s c.entries attempt)
  pub stands : IsFalse (is_disk_fault c.status) → StandsAfter c
  pub complete : IfSteady c (IsDoneOrMemory c.status)
