-- How the program ends after a check, by what the check told.
use Rattle.std.specs.Prelude.{IfSome}
use Rattle.std.proofs.Common.{◌≡◌, ◌⊎◌, ◌∙◌, ap₂, inl, inr, refl, subst, Bool, ℕ, List, Option, Some, None, Result, Ok, Err}
use Rattle.jf_disk.specs.Disk.{Files, History}
use Rattle.jf_disk.specs.Memory.{start}
use Rattle.jf_disk.specs.Missing.{file_on, files_found}
use Rattle.jf_disk.specs.declared.side.Side.{Side}
use Rattle.jf_disk.specs.declared.side.Side.TheVariants as side
use Rattle.jf_folder.specs.Any.{any_history, any_missing, is_gone}
use Rattle.jf_folder.specs.declared.cause.FaultCause.{FaultCause}
use Rattle.jf_check.specs.Written.{ChecksDisk, WritesCheck}
use Rattle.jf_check.specs.declared.fault.Unchecked.{Unchecked}
use Rattle.jf_check.specs.declared.fault.Unchecked.TheVariants as unchecked
use Rattle.jf_check.specs.declared.store_check.StoreCheck.{StoreCheck}
use Rattle.jf_check.specs.declared.store_check.StoreCheck.TheVariants as store_check
use Rattle.jf_words.specs.declared.modes.Mode.{Mode}
use Rattle.jf_words.specs.declared.modes.Mode.TheVariants as mode
use Rattle.jf_run.specs.Calls.{ProgramCall}
use Rattle.jf_run.specs.Checking.{IsCheckedCall}
use Rattle.jf_run.specs.Promises.{KeepsPromises, Owes}
use Rattle.jf_run.specs.Statuses.{status_of_check}
use Rattle.jf_run.specs.declared.status.Status.{Status}
use Rattle.jf_run.specs.declared.status.Status.TheVariants as status
use Rattle.jf_main.specs.Checks.{check_cause, check_status, end_cause, end_status, IsCheckEnd, ShowsFiles}
use Rattle.jf_main.specs.declared.checking.SeenFiles.{SeenFiles}
use Rattle.jf_main.specs.declared.ending.Ending.{Ending}

-- what such a call owes
pub owed_check : (c : ProgramCall) → c.asks ≡ Some mode.Check → KeepsPromises c → IsCheckedCall c
owed_check c asked k = subst (λ (asks : Option Mode). IfSome asks (λ m. Owes m c)) asked k.owed

status_told : (r : Result StoreCheck Unchecked) (refusal : Option FaultCause) → end_status (status_of_check r) refusal ≡ check_status r refusal
status_told (Ok (store_check.Damaged where_ at)) None = refl
status_told (Ok (store_check.Damaged where_ at)) (Some cause) = refl
status_told (Ok (store_check.Sound live kept checkpoint)) None = refl
status_told (Ok (store_check.Sound live kept checkpoint)) (Some cause) = refl
status_told (Err unchecked.DiskFault) refusal = refl
status_told (Err unchecked.WriteFault) refusal = refl
status_told (Err unchecked.Memory) refusal = refl

cause_told : (r : Result StoreCheck Unchecked) (refusal : Option FaultCause) → end_cause (status_of_check r) refusal ≡ check_cause r refusal
cause_told (Ok (store_check.Damaged where_ at)) refusal = refl
cause_told (Ok (store_check.Sound live kept checkpoint)) refusal = refl
cause_told (Err unchecked.DiskFault) refusal = refl
cause_told (Err unchecked.WriteFault) refusal = refl
cause_told (Err unchecked.Memory) refusal = refl

-- the files that a disk shows
a_shown : (missing : Side → Bool) (a b : Option (List ℕ)) → missing side.A ≡ is_gone a → file_on missing (files_found a b) side.A ≡ a
a_shown missing None b gone = rw gone refl
a_shown missing (Some bytes) b gone = rw gone refl

b_shown : (missing : Side → Bool) (a b : Option (List ℕ)) → missing side.B ≡ is_gone b → file_on missing (files_found a b) side.B ≡ b
b_shown missing a None gone = rw gone refl
b_shown missing a (Some bytes) gone = rw gone refl

written_of : (r : Result StoreCheck Unchecked) (a b : Option (List ℕ)) (s : SeenFiles) (text text' : Option (List ℕ)) → ShowsFiles a b s → ChecksDisk r (any_missing s.disk) (any_history s.disk) text text' → WritesCheck r a b text text'
written_of r a b s text text' shows told =
    let files : told.files ≡ files_found a b = told.read (start (files_found a b)) shows.history in
    subst (λ (x : Option (List ℕ)). WritesCheck r x b text text') (a_shown (any_missing s.disk) a b shows.a_missing)
    (subst (λ (x : Option (List ℕ)). WritesCheck r (file_on (any_missing s.disk) (files_found a b) side.A) x text text') (b_shown (any_missing s.disk) a b shows.b_missing)
    (subst (λ (f : Files). WritesCheck r (file_on (any_missing s.disk) f side.A) (file_on (any_missing s.disk) f side.B) text text') files told.written))

-- the end after a call in this mode over a disk that shows these files
pub check_ends : (c : ProgramCall) (s : SeenFiles) (e : Ending) (a b : Option (List ℕ)) → IsCheckedCall c → c.missing ≡ any_missing s.disk → c.before.disk.history ≡ any_history s.disk → ShowsFiles a b s
    → e.status ≡ end_status c.status s.refusal → e.cause ≡ end_cause c.status s.refusal → e.note ≡ None → IsCheckEnd a b c.before.text c.after.text e
check_ends c s e a b checked missing history shows status_is cause_is note_is =
    let told : ChecksDisk checked.outcome (any_missing s.disk) (any_history s.disk) c.before.text c.after.text =
    subst (λ (m : Side → Bool). ChecksDisk checked.outcome m (any_history s.disk) c.before.text c.after.text) missing
    (subst (λ (h : Option History). ChecksDisk checked.outcome c.missing h c.before.text c.after.text) history checked.told) in
    record {
      outcome = checked.outcome;
      written = written_of checked.outcome a b s c.before.text c.after.text shows told;
      status_is = status_is ∙ ap₂ end_status checked.status_is shows.refusal_is ∙ status_told checked.outcome _;
      cause_is = cause_is ∙ ap₂ end_cause checked.status_is shows.refusal_is ∙ cause_told checked.outcome _;
      note_is = note_is;
    }

-- the end says that the sink failed only if the call says so
pub write_told : (s : Status) (refusal : Option FaultCause) → end_status s refusal ≡ status.WriteFault → s ≡ status.WriteFault
write_told status.Done None is = absurd (cc is)
write_told status.Done (Some cause) is = absurd (cc is)
write_told (status.Damaged where_ at) None is = absurd (cc is)
write_told (status.Damaged where_ at) (Some cause) is = absurd (cc is)
write_told status.DiskFault refusal is = absurd (cc is)
write_told status.Usage refusal is = is
write_told status.ReadFault refusal is = is
write_told status.WriteFault refusal is = is
write_told status.InputFull refusal is = is
write_told status.Memory refusal is = is
write_told (status.Refused why) refusal is = is
write_told (status.Outside least head) refusal is = is
write_told (status.Unfollowed why) refusal is = is
write_told (status.NotShown why) refusal is = is
write_told (status.Elsewhere head root) refusal is = is

-- and that memory ran out only if the call says so, or that the disk failed
pub memory_told : (s : Status) (refusal : Option FaultCause) → end_status s refusal ≡ status.Memory → (s ≡ status.DiskFault) ⊎ (s ≡ status.Memory)
memory_told status.Done None is = absurd (cc is)
memory_told status.Done (Some cause) is = absurd (cc is)
memory_told (status.Damaged where_ at) None is = absurd (cc is)
memory_told (status.Damaged where_ at) (Some cause) is = absurd (cc is)
memory_told status.DiskFault refusal is = inl refl
memory_told status.Usage refusal is = absurd (cc is)
memory_told status.ReadFault refusal is = absurd (cc is)
memory_told status.WriteFault refusal is = absurd (cc is)
memory_told status.InputFull refusal is = absurd (cc is)
memory_told status.Memory refusal is = inr refl
memory_told (status.Refused why) refusal is = absurd (cc is)
memory_told (status.Outside least head) refusal is = absurd (cc is)
memory_told (status.Unfollowed why) refusal is = absurd (cc is)
memory_told (status.NotShown why) refusal is = absurd (cc is)
memory_told (status.Elsewhere head root) refusal is = absurd (cc is)
