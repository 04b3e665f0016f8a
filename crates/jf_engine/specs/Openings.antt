-- The effect of an opening of two files, or of its refusal, on them.
use Rattle.std.specs.Prelude.{ℕ, List, ◌≡◌, ◌≤◌, ◌⊎◌, [], ◌∷◌, Option, Some, None}
use Rattle.std.specs.Option.{ForSome}
use Rattle.jf_path.specs.Faults.{HasCause}
use Rattle.jf_model.specs.Versions.{Versions}
use Rattle.jf_disk.specs.Disk.{Files, History, reads}
use Rattle.jf_disk.specs.Crashes.{LeavesFiles, LeavesNow}
use Rattle.jf_disk.specs.Moments.{ExtendsHistory}
use Rattle.jf_disk.specs.declared.disk.Disk as disk
use Rattle.jf_disk.specs.declared.side.Side.{Side}
use Rattle.jf_frame.specs.Framed.{LogRecord}
use Rattle.jf_pair.specs.Files.{HoldsLive}
use Rattle.jf_files.specs.Files.{StandsFor, IsDamagedAt, generation}
use Rattle.jf_files.specs.Steps.{Opens, StopsWell, Succeeds, LiveAfter, IsCalm}
use Rattle.jf_files.specs.Begun.{IsBegunOver}
use Rattle.jf_files.specs.NewStore.{new_store_bytes}
use Rattle.jf_engine.specs.Engines.{Engine, IsSettledOn}
use Rattle.jf_engine.specs.declared.existing.Existing.{Existing}
use Rattle.jf_engine.specs.declared.existing.Existing.TheVariants as existing
use Rattle.jf_engine.specs.declared.fault.OpenFault.{OpenFault}
use Rattle.jf_engine.specs.declared.fault.OpenFault.TheVariants as open_fault

-- `new` extends `old`, and the files still represent the same; on a calm disk so does whatever a crash in an added state
-- leaves; files that hold a record are unchanged
pub record KeepsVersions (old new : History) : Type 0 where
  pub extends : ExtendsHistory old new
  pub stands : (v : Versions) → StandsFor (reads old) v → StandsFor (reads new) v
  pub stops : (v : Versions) → IsCalm old → StandsFor (reads old) v → StopsWell Opens old new v
  pub recorded : (x : LogRecord) (xs : List LogRecord) → HoldsLive (reads old) (x ∷ xs) → LeavesFiles old new

-- files of which side A holds the checkpoint of a new store, and side B is as it was
abbrev pub with_new_store : Files → Files
with_new_store files = record { a = new_store_bytes; b = files.b }

-- ---- what an opening gives
-- what a disk shows: its history, if it is known, its moment and its count of faults
pub record DiskView : Type 0 where
  pub history : Option History
  pub moment : ℕ
  pub faults : ℕ

-- the disk that shows these three
abbrev pub disk_view : Option History → ℕ → ℕ → DiskView
disk_view history moment faults = record { history = history; moment = moment; faults = faults }

-- if a disk's history is known before a call, it is known after it, and the two are so related
abbrev pub OnHistories : Option History → Option History → (History → History → Type 0) → Type 0
OnHistories old new P = ForSome old (λ h. (g : History) × (new ≡ Some g) × P h g)

-- an engine was opened on a disk: its versions are what the files represented, in their generation; the disk is settled on
-- them; the live records are those found, or a first checkpoint on side A; and on a calm disk the opening has succeeded as a
-- step. No call failed: a fault once met isn't passed over
pub record HasOpened (old new : DiskView) (v : Versions) (n : ℕ) : Type 0 where
  pub found : ForSome old.history (λ h. StandsFor (reads h) v × (generation (reads h) ≡ n))
  pub disk : OnHistories old.history new.history KeepsVersions
  pub settled : OnHistories old.history new.history (λ h g. IsSettledOn g v n)
  pub live : OnHistories old.history new.history (λ h g. (rs : List LogRecord) → HoldsLive (reads h) rs → (rs' : List LogRecord) × HoldsLive (reads g) rs' × LiveAfter Opens rs rs')
  pub begun : OnHistories old.history new.history (λ h g. HoldsLive (reads h) [] → reads g ≡ with_new_store (reads h))
  pub succeeds : OnHistories old.history new.history (λ h g. LeavesNow h (λ f. StandsFor f v) → Succeeds Opens h g v)
  pub unknown : old.history ≡ None → new.history ≡ None
  pub moment : old.moment ≤ new.moment
  pub faults : new.faults ≡ old.faults

-- no engine was opened, for this reason. The files are unchanged, except that a disk that failed may have initialised files
-- without a record. `Damaged` gives the first place of damage; damaged files end in that, in `DiskFault` or in `Memory`
pub record HasRefused (old new : DiskView) (why : OpenFault) : Type 0 where
  pub disk : OnHistories old.history new.history KeepsVersions
  pub left : OnHistories old.history new.history (λ h g. LeavesFiles h g ⊎ ((why ≡ open_fault.DiskFault) × IsBegunOver h g))
  pub damaged : ForSome old.history (λ h. (where_ : Side) (at : ℕ) → why ≡ open_fault.Damaged where_ at → IsDamagedAt (reads h) where_ at)
  pub damaged_told : ForSome old.history (λ h. (where_ : Side) (at : ℕ) → IsDamagedAt (reads h) where_ at → (why ≡ open_fault.Damaged where_ at) ⊎ ((why ≡ open_fault.DiskFault) ⊎ (why ≡ open_fault.Memory)))
  pub cause : why ≡ open_fault.DiskFault → HasCause old.faults new.faults
  pub unknown : old.history ≡ None → new.history ≡ None
  pub moment : old.moment ≤ new.moment
  pub faults : old.faults ≤ new.faults

-- ---- what an opening that begins no files gives
-- a store was opened on files that held a record, and the files are unchanged
pub record HasReopened (old new : DiskView) (v : Versions) (n : ℕ) : Type 0 where
  pub opened : HasOpened old new v n
  pub recorded : ForSome old.history (λ h. HoldsLive (reads h) [] → ⊥)
  pub left : OnHistories old.history new.history LeavesFiles

-- neither side of the files holds a record, and the files are unchanged
pub record HasFoundNoStore (old new : DiskView) : Type 0 where
  pub disk : OnHistories old.history new.history (λ h g. HoldsLive (reads h) [] × LeavesFiles h g)
  pub unknown : old.history ≡ None → new.history ≡ None
  pub moment : old.moment ≤ new.moment
  pub faults : new.faults ≡ old.faults

-- what the files of a disk were found to be, by the members of the disk's type
abbrev pub HasFoundExisting : {D : Type 0} → disk.Ghosts D → DiskView → Existing D → Type 0
HasFoundExisting members old (existing.Store e) = HasReopened old (disk_view e.history e.moment e.faults) e.versions e.generation
HasFoundExisting members old (existing.Absent d) = HasFoundNoStore old (disk_view (members.history d) (members.moment d) (members.faults d))

-- the store, if the files hold one
abbrev pub store_in : {D : Type 0} → Existing D → Option Engine
store_in (existing.Store e) = Some e
store_in (existing.Absent d) = None
