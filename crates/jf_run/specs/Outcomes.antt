-- What calls owe over files that represented versions: what these represent afterwards, and an end without a fault.
use Rattle.std.specs.Prelude.{◌≡◌, ◌⊎◌, ℕ, List, Option, Some}
use Rattle.std.specs.Option.{ForSome}
use Rattle.jf_model.specs.Versions.{Versions}
use Rattle.jf_model.specs.States.{state_when_opened, versions}
use Rattle.jf_model.specs.Entries.{replay}
use Rattle.jf_model.specs.declared.entries.Entry.{Entry}
use Rattle.jf_disk.specs.Disk.{History, reads}
use Rattle.jf_files.specs.Files.{StandsFor, generation}
use Rattle.jf_run.specs.Calls.{ProgramCall, Steady}
use Rattle.jf_run.specs.declared.status.Status.{Status}
use Rattle.jf_run.specs.declared.status.Status.TheVariants as status

-- a read of the disk gives the result of the entries for these versions, held in files of this generation; and the
-- generation to which they lead
pub record StandsForEntries (after : Option History) (v : Versions) (g : ℕ) (entries : List Entry) : Type 0 where
  pub now : History
  pub told : after ≡ Some now
  pub stands : StandsFor (reads now) (versions (replay (state_when_opened v g) entries))
  pub generation_is : generation (reads now) ≡ (replay (state_when_opened v g) entries).generation

-- files that represented versions before the call represent the versions and generation to which its entries lead from these
abbrev pub StandsAfter : ProgramCall → Type 0
StandsAfter c = ForSome c.before.disk.history (λ h. (v : Versions) → StandsFor (reads h) v → StandsForEntries c.after.disk.history v (generation (reads h)) c.entries)

-- what holds if the files represented versions before the call and no device failed in it
abbrev pub IfSteady : ProgramCall → Type 0 → Type 0
IfSteady c holds = ForSome c.before.disk.history (λ h. (v : Versions) → StandsFor (reads h) v → Steady c.before.source_faults c.after.source_faults
    → Steady c.before.sink_faults c.after.sink_faults → Steady c.before.disk.faults c.after.disk.faults → holds)

-- all was done, or memory ran out
abbrev pub IsDoneOrMemory : Status → Type 0
IsDoneOrMemory s = (s ≡ status.Done) ⊎ (s ≡ status.Memory)
