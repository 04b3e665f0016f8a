-- What the program promises of a call in the mode `generate`.
use Rattle.std.specs.Prelude.{◌≡◌, ℕ, List, Option}
use Rattle.jf_model.specs.States.{State}
use Rattle.jf_model.specs.declared.entries.Entry.{Entry}
use Rattle.jf_history.specs.declared.end.End.{End}
use Rattle.jf_workload.specs.ScriptsAlone.{GeneratedAlone}
use Rattle.jf_run.specs.Calls.{ProgramCall}
use Rattle.jf_run.specs.LinesCalls.{IsLinesCall}
use Rattle.jf_run.specs.Statuses.{status_of}

-- a call that opened the store, with this newest version: its lines are those of a generated script, its status tells how they ended,
-- and no input is read
pub record IsGeneratedCall (c : ProgramCall) (script : List (List ℕ)) (head : ℕ) : Type 0 where
  pub state : State
  pub end : End
  pub attempt : Option Entry
  pub ran : GeneratedAlone end state script c.entries attempt c.before.text c.after.text
  pub lines : IsLinesCall c head state attempt ran.done
  pub status_is : c.status ≡ status_of end
  pub unread : (c.after.rest ≡ c.before.rest) × (c.after.source_faults ≡ c.before.source_faults)
