-- What the program promises of a call that trims the files of a store.
use Rattle.std.specs.Prelude.{◌≡◌, ◌⊎◌, ℕ, [], ◌∷◌, List, Option, Result, Ok, Err, IfOk, codes, decimal}
use Rattle.jf_disk.specs.Disk.{IsImage, bytes_of, reads}
use Rattle.jf_disk.specs.Crashes.{GoesOn, LeavesFiles, opposite}
use Rattle.jf_disk.specs.declared.side.Side.{Side}
use Rattle.jf_disk.specs.declared.side.Side.TheVariants as side
use Rattle.jf_text.specs.Words.{line_text}
use Rattle.jf_io.specs.Sink.{IsCutShort}
use Rattle.jf_input.specs.Feeds.{Appends}
use Rattle.jf_pair.specs.declared.fault.PairFault.{PairFault}
use Rattle.jf_pair.specs.declared.fault.PairFault.TheVariants as pair_fault
use Rattle.jf_files.specs.Files.{StandsFor}
use Rattle.jf_trim.specs.Trims.{HasTrimmed, spare_side}
use Rattle.jf_trim.specs.declared.trimmed.Trimmed.{Trimmed}
use Rattle.jf_model.specs.States.{State}
use Rattle.jf_engine.specs.Faults.{of_pair}
use Rattle.jf_engine.specs.Openings.{DiskView, OnHistories}
use Rattle.jf_run.specs.Calls.{ProgramCall}
use Rattle.jf_run.specs.Outcomes.{IfSteady, IsDoneOrMemory, StandsAfter}
use Rattle.jf_run.specs.Restoring.{StaysHeld}
use Rattle.jf_run.specs.Runs.{IsBegun}
use Rattle.jf_run.specs.Statuses.{status_of_refusal}
use Rattle.jf_run.specs.declared.status.Status.{Status}
use Rattle.jf_run.specs.declared.status.Status.TheVariants as status

-- the name of a side in a text
abbrev pub side_name : Side → List ℕ
side_name side.A = codes "a"
side_name side.B = codes "b"

-- the line `trimmed SIDE BYTES`
abbrev pub trimmed_line : Trimmed → List ℕ
trimmed_line t = line_text (codes "trimmed" ∷ side_name t.side ∷ decimal t.bytes ∷ [])

-- how a call ended that was to trim, and what it wrote: the line, a front of it or, out of memory, nothing; nothing too if it didn't
-- trim, and the status says why
abbrev pub TellsTrimmed : Result Trimmed PairFault → Status → Option (List ℕ) → Option (List ℕ) → Type 0
TellsTrimmed (Ok t) status.Done text text' = Appends text text' (trimmed_line t)
TellsTrimmed (Ok t) status.WriteFault text text' = IsCutShort text text' (trimmed_line t)
TellsTrimmed (Ok t) status.Memory text text' = text' ≡ text
TellsTrimmed (Ok t) s text text' = ⊥
TellsTrimmed (Err why) s text text' = (s ≡ status_of_refusal (of_pair why)) × (text' ≡ text)

-- a call that opened the store, with this newest version and in this state, and was to trim its files. Whatever the end, a fault of the
-- disk too, these represent the versions from before the call (`files`, `stands`), the side that was live when the store was open has its
-- bytes (`live`), and a crash at any moment since leaves what it could have left then, or files that represent these versions (`images`);
-- on a calm disk it leaves no others in the whole call. If it trimmed (`trimmed`), the side that wasn't live is its closed gate alone, the
-- line tells by how many bytes it is shorter (`told`), and no call on the disk failed (`calm`). If it didn't, and no call on the disk failed,
-- nothing changed since the store was open (`unchanged`). There are no entries, and no input was read. The sink failed only if it was to
-- take the line (`silent`). If no device failed, all was done or memory ran out (`complete`)
pub record IsTrimmedCall (c : ProgramCall) (head : ℕ) : Type 0 where
  pub state : State
  pub opened : DiskView
  pub begun : IsBegun state c.before.disk opened head
  pub how : Result Trimmed PairFault
  pub told : TellsTrimmed how c.status c.before.text c.after.text
  pub trimmed : OnHistories opened.history c.after.disk.history (λ h g. IfOk how (λ t. HasTrimmed t h g))
  pub files : StaysHeld c.before.disk.history c.after.disk.history state.all state.generation
  pub stands : StandsAfter c
  pub live : OnHistories opened.history c.after.disk.history (λ h g. bytes_of (opposite (spare_side (reads h))) (reads g) ≡ bytes_of (opposite (spare_side (reads h))) (reads h))
  pub images : OnHistories opened.history c.after.disk.history (λ h g. GoesOn h g (λ f. IsImage h.now f ⊎ StandsFor f state.all))
  pub unchanged : (why : PairFault) → how ≡ Err why → (why ≡ pair_fault.DiskFault) ⊎ OnHistories opened.history c.after.disk.history LeavesFiles
  pub calm : IfOk how (λ t. c.after.disk.faults ≡ c.before.disk.faults)
  pub entries : c.entries ≡ []
  pub unread : (c.after.rest ≡ c.before.rest) × (c.after.source_faults ≡ c.before.source_faults)
  pub silent : (c.status ≡ status.Done → ⊥) → (c.status ≡ status.WriteFault → ⊥) → c.after.sink_faults ≡ c.before.sink_faults
  pub complete : IfSteady c (IsDoneOrMemory c.status)
