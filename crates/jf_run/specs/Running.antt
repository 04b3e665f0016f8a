-- What the program promises of a call in the mode `run`.
use Rattle.std.specs.Prelude.{◌≡◌, ℕ, Option}
use Rattle.jf_model.specs.States.{State}
use Rattle.jf_model.specs.declared.entries.Entry.{Entry}
use Rattle.jf_history.specs.Alone.{RanAlone}
use Rattle.jf_history.specs.declared.end.End.{End}
use Rattle.jf_run.specs.Calls.{ProgramCall}
use Rattle.jf_run.specs.LinesCalls.{IsLinesCall}
use Rattle.jf_run.specs.Statuses.{status_of}

-- a call that opened the store, with this newest version: its lines are those of the input, and its status tells how they ended
pub record IsRunCall (c : ProgramCall) (head : ℕ) : Type 0 where
  pub state : State
  pub end : End
  pub attempt : Option Entry
  pub ran : RanAlone end state c.entries attempt c.before.rest c.after.rest c.before.text c.after.text
  pub lines : IsLinesCall c head state attempt ran.done
  pub status_is : c.status ≡ status_of end
