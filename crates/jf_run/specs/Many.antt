-- What the program promises of a call that looks up the names of its input in one version.
use Rattle.std.specs.Prelude.{◌≡◌, ◌⊎◌, ℕ, Result, Err}
use Rattle.jf_model.specs.States.{State}
use Rattle.jf_names.specs.Answers.{AnswersNames, IsInside, RefusesLine}
use Rattle.jf_names.specs.declared.fault.NamesFault.{NamesFault}
use Rattle.jf_names.specs.declared.fault.NamesFault.TheVariants as fault
use Rattle.jf_receive.specs.declared.received.RestoreFault.TheVariants as restore_fault
use Rattle.jf_run.specs.Statuses.{status_of_names}
use Rattle.jf_run.specs.Calls.{ProgramCall, with_disk}
use Rattle.jf_run.specs.Outcomes.{IfSteady, IsDoneOrMemory}
use Rattle.jf_run.specs.ReadOnly.{IsReadOnlyCall}
use Rattle.jf_run.specs.declared.status.Status.TheVariants as status

-- a call that opened the store, with this newest version and in this state, changed nothing, and was to write what a version says of the
-- names of its input, with one proof of it all. The text is that of the versions found and of the input: the whole of it, a front of it, or
-- nothing (`answered`). It ends with `Outside` exactly if the version isn't from the floor to the head, and then no call was made on source
-- or sink (`untouched`). Otherwise the first line that is no name, or comes after 10,000, is refused by its number, unless the source failed
-- or memory ran out (`line`); then no call was made on the sink (`silent`). If no device failed, all was done, memory ran out, the version
-- is outside or a line was refused (`complete`)
pub record IsManyCall (c : ProgramCall) (version head : ℕ) : Type 0 where
  pub state : State
  pub read_only : IsReadOnlyCall c state head
  pub how : Result (Unit {0}) NamesFault
  pub status_is : c.status ≡ status_of_names how
  pub answered : AnswersNames how state.all version c.before.rest c.after.rest c.before.text c.after.text
  pub line : IsInside state.all version → RefusesLine how c.before.rest
  pub untouched : (least greatest : ℕ) → how ≡ Err (fault.Outside least greatest) → c.after ≡ with_disk c.after.disk c.before
  pub silent : (at : ℕ) → (how ≡ Err (fault.Line at)) ⊎ (how ≡ Err fault.Memory) → c.after.sink_faults ≡ c.before.sink_faults
  pub complete : IfSteady c (IsDoneOrMemory c.status ⊎ (((least : ℕ) × (greatest : ℕ) × (c.status ≡ status.Outside least greatest)) ⊎ ((at : ℕ) × (c.status ≡ status.Refused (restore_fault.Line at)))))
