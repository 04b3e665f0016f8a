-- How a store is opened for a mode, or isn't.
use Rattle.std.specs.Prelude.{◌≡◌, ℕ, Bool, false, List, Option, None, Some}
use Rattle.jf_model.specs.States.{state_when_opened}
use Rattle.jf_model.specs.declared.entries.Entry.{Entry}
use Rattle.jf_disk.specs.declared.side.Side.{Side}
use Rattle.jf_engine.specs.Engines.{Engine}
use Rattle.jf_engine.specs.Openings.{DiskView}
use Rattle.jf_words.specs.declared.modes.Mode.{Mode}
use Rattle.jf_run.specs.declared.status.Status.{Status}
use Rattle.jf_run.specs.Calls.{Devices, engine_disk, program_call, with_disk}
use Rattle.jf_run.specs.Runs.{IsBegun}
use Rattle.jf_run.specs.Resuming.{HoldsFor}
use Rattle.jf_run.specs.Promises.{KeepsPromises}

-- the store on a disk is open for a mode, and takes changes
pub record IsOpenFor (m : Mode) (before : DiskView) (e : Engine) : Type 0 where
  pub begun : IsBegun (state_when_opened e.versions e.generation) before (engine_disk e) e.versions.head
  pub held : HoldsFor m before
  pub whole : e.broken ≡ false

-- a call in a mode ended before a store was open, and keeps what is promised, whatever source and sink show
pub record EndsUnopened (m : Mode) (missing : Side → Bool) (before after : DiskView) (status : Status) (entries : List Entry) (start : Option ℕ) : Type 0 where
  pub start_is : start ≡ None
  pub kept : (devices : Devices) → KeepsPromises (program_call (Some m) missing (with_disk before devices) (with_disk after devices) status entries start)
