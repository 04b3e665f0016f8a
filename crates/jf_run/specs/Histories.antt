-- What the program promises of a call that writes the total of the recorded roots, with the proofs for one version.
use Rattle.std.specs.Prelude.{◌≡◌, ◌⊎◌, ℕ, Result}
use Rattle.jf_model.specs.States.{State}
use Rattle.jf_totals.specs.Written.{WritesHistory}
use Rattle.jf_totals.specs.declared.fault.HistoryFault.{HistoryFault}
use Rattle.jf_run.specs.Statuses.{status_of_history}
use Rattle.jf_run.specs.Calls.{ProgramCall}
use Rattle.jf_run.specs.Outcomes.{IfSteady, IsDoneOrMemory}
use Rattle.jf_run.specs.ReadOnly.{IsReadOnlyCall}
use Rattle.jf_run.specs.declared.status.Status.TheVariants as status

-- a call that opened the store, with this newest version and in this state, changed nothing, and was to write the text on a version. The
-- text is that of the versions found: the whole of it, a front of it or, exactly if the version's root isn't recorded, nothing (`written`).
-- No input was read. If no device failed, all was done, memory ran out or the version's root isn't recorded (`complete`)
pub record IsHistoryCall (c : ProgramCall) (version head : ℕ) : Type 0 where
  pub state : State
  pub read_only : IsReadOnlyCall c state head
  pub how : Result (Unit {0}) HistoryFault
  pub status_is : c.status ≡ status_of_history how
  pub written : WritesHistory how state.all version c.before.text c.after.text
  pub unread : (c.after.rest ≡ c.before.rest) × (c.after.source_faults ≡ c.before.source_faults)
  pub complete : IfSteady c (IsDoneOrMemory c.status ⊎ ((least : ℕ) × (greatest : ℕ) × (c.status ≡ status.Outside least greatest)))
