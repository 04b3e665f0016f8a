-- What a mode promises that is done over an open store, whichever call opened it.
use Rattle.std.specs.Prelude.{ℕ, Bool, List, Some}
use Rattle.jf_disk.specs.declared.side.Side.{Side}
use Rattle.jf_model.specs.States.{State}
use Rattle.jf_model.specs.declared.entries.Entry.{Entry}
use Rattle.jf_engine.specs.Openings.{DiskView}
use Rattle.jf_words.specs.declared.modes.Mode.{Mode}
use Rattle.jf_run.specs.Calls.{Devices, program_call, with_disk}
use Rattle.jf_run.specs.Promises.{KeepsPromises}
use Rattle.jf_run.specs.Resuming.{HoldsFor}
use Rattle.jf_run.specs.Runs.{IsBegun, IsDatedDisk}
use Rattle.jf_run.specs.declared.status.Status.{Status}

-- a mode was done over a store that was opened in this state, from what the devices showed then to what they show after it: a call
-- that opened the store so, for this mode, and ends so, keeps its promises
abbrev pub CompletesCall : Mode → State → (opened after : Devices) → Status → List Entry → Type 0
CompletesCall m s opened after status entries = (missing : Side → Bool) (before : DiskView) (head : ℕ) → IsBegun s before opened.disk head → IsDatedDisk before → HoldsFor m before
    → KeepsPromises (program_call (Some m) missing (with_disk before opened) after status entries (Some head))
