-- What the program promises of a call that opens the store and changes nothing.
use Rattle.std.specs.Prelude.{◌≡◌, ℕ, []}
use Rattle.jf_model.specs.States.{State}
use Rattle.jf_run.specs.Calls.{ProgramCall}
use Rattle.jf_run.specs.Outcomes.{StandsAfter}
use Rattle.jf_run.specs.Runs.{IsBegun}
use Rattle.jf_run.specs.Restoring.{StaysHeld}

-- a call that opened the store, with this newest version and in this state, and has no entries. After the call the disk shows what an
-- opening leaves (`begun`), as if no call on it followed; so the files represent the versions from before the call
-- (`stands`), and a crash at any moment of it left no others (`files`)
pub record IsReadOnlyCall (c : ProgramCall) (s : State) (head : ℕ) : Type 0 where
  pub begun : IsBegun s c.before.disk c.after.disk head
  pub files : StaysHeld c.before.disk.history c.after.disk.history s.all s.generation
  pub entries : c.entries ≡ []
  pub stands : StandsAfter c
