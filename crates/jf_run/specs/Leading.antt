-- What the program promises of a call in the mode `lead`.
use Rattle.std.specs.Prelude.{◌≡◌, ◌≢◌, ℕ, Bool, true, Option, None}
use Rattle.std.specs.List.{AllByRecursion}
use Rattle.jf_path.specs.Faults.{HasCause}
use Rattle.jf_model.specs.States.{State}
use Rattle.jf_model.specs.declared.entries.Entry.{Entry}
use Rattle.jf_lead.specs.Landings.{landings}
use Rattle.jf_lead.specs.Laws.{IsLandingBlock}
use Rattle.jf_history.specs.Alone.{RanAlone}
use Rattle.jf_history.specs.declared.end.End.{End}
use Rattle.jf_history.specs.declared.end.End.TheVariants as end
use Rattle.jf_session.specs.Leading.{WritesBlocks}
use Rattle.jf_run.specs.Calls.{ProgramCall}
use Rattle.jf_run.specs.LinesCalls.{IsLinesCall}
use Rattle.jf_run.specs.Statuses.{status_of_led}
use Rattle.jf_run.specs.declared.status.Status.{Status}

-- a script was led to this end, which the status tells. No fault of the sink ended it, but one cut its text short if the text is cut:
-- then the count of faults rose, or was at its highest value
pub record EndsLed (how : Status) (e : End) (is_cut : Bool) (faults faults' : ℕ) : Type 0 where
  pub status_is : how ≡ status_of_led e is_cut
  pub unstopped : e ≢ end.WriteFault
  pub cut : is_cut ≡ true → HasCause faults faults'

-- a call that opened the store, with this newest version: its lines are those of the input, as in the mode `run`, and no reply is
-- written. The text is that of the landing blocks of its entries, each of which can be written and so read back. A fault of the sink
-- cuts the text short, and the lines go on; if memory ran out, the blocks of the last entry may be missing
pub record IsLedCall (c : ProgramCall) (head : ℕ) : Type 0 where
  pub state : State
  pub end : End
  pub is_cut : Bool
  pub attempt : Option Entry
  pub ran : RanAlone end state c.entries attempt c.before.rest c.after.rest None None
  pub lines : IsLinesCall c head state attempt ran.done
  pub ended : EndsLed c.status end is_cut c.before.sink_faults c.after.sink_faults
  pub blocks_sound : AllByRecursion IsLandingBlock (landings state c.entries)
  pub written : WritesBlocks end is_cut state c.entries (landings state c.entries) c.before.text c.after.text
