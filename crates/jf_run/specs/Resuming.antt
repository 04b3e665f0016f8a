-- What the program promises of a call in the mode `resume`: that of a run, if the store has the root that was announced of a version.
use Rattle.std.specs.Prelude.{◌≡◌, ◌⊎◌, ◌≤◌, ℕ, [], List, None, Some, IfSome}
use Rattle.std.specs.Option.{ForSome}
use Rattle.std.specs.FinMap as fin
use Rattle.jf_hash.specs.Roots.{root}
use Rattle.jf_model.specs.Versions.{Versions, new_store, root_of}
use Rattle.jf_model.specs.States.{State}
use Rattle.jf_disk.specs.Disk.{History, reads}
use Rattle.jf_disk.specs.Crashes.{LeavesFiles}
use Rattle.jf_engine.specs.Files.{HoldsLive}
use Rattle.jf_engine.specs.Openings.{DiskView, OnHistories}
use Rattle.jf_words.specs.declared.modes.Mode.{Mode}
use Rattle.jf_words.specs.declared.modes.Mode.TheVariants as mode
use Rattle.jf_run.specs.Calls.{ProgramCall, with_disk}
use Rattle.jf_run.specs.ReadOnly.{IsReadOnlyCall}
use Rattle.jf_run.specs.Running.{IsRunCall}
use Rattle.jf_run.specs.declared.status.Status.TheVariants as status

-- a version's root is recorded, and is this one
abbrev pub IsRootAt : Versions → ℕ → List ℕ → Type 0
IsRootAt v version announced = (v.base ≤ version) × (version ≤ v.head) × (root_of v version ≡ announced)

-- files without a record may be initialised for a mode: for `resume` only if a new store has the announced root
abbrev pub MayBegin : Mode → Type 0
MayBegin (mode.Resume version announced workers) = IsRootAt new_store version announced
MayBegin m = Unit {0}

-- ---- over files that hold a record, or may be initialised
-- a call that opened the store, with this newest version and in this state, and found that its recorded root of a version isn't the
-- announced one, or that the version isn't from base to head. It did nothing (`read_only`), and ended with the newest version and its
-- root. No call was made on source or sink (`untouched`). The files held a record (`held`), and are unchanged (`unchanged`)
pub record IsElsewhere (c : ProgramCall) (version : ℕ) (announced : List ℕ) (head : ℕ) : Type 0 where
  pub state : State
  pub read_only : IsReadOnlyCall c state head
  pub elsewhere : IsRootAt state.all version announced → ⊥
  pub status_is : c.status ≡ status.Elsewhere head (root_of state.all head)
  pub untouched : c.after ≡ with_disk c.after.disk c.before
  pub held : ForSome c.before.disk.history (λ h. HoldsLive (reads h) [] → ⊥)
  pub unchanged : OnHistories c.before.disk.history c.after.disk.history LeavesFiles

-- a call that opened the store, with this newest version: it is a run over a store that has the announced root, or did nothing over
-- another one
abbrev pub IsResumedOver : ProgramCall → (version : ℕ) → (announced : List ℕ) → (head : ℕ) → Type 0
IsResumedOver c version announced head = ((r : IsRunCall c head) × IsRootAt r.state.all version announced) ⊎ IsElsewhere c version announced head

-- ---- over files without a record
-- a call that was to resume a store, and found none: the files held no record, and a new store doesn't have the announced root. It ended
-- with version 0 and the root of the empty map, and the files are unchanged (`unchanged`). No call on the disk failed (`calm`), and none
-- was made on source or sink (`untouched`)
pub record IsAbsentCall (c : ProgramCall) : Type 0 where
  pub version : ℕ
  pub announced : List ℕ
  pub workers : ℕ
  pub asks : c.asks ≡ Some (mode.Resume version announced workers)
  pub elsewhere : IsRootAt new_store version announced → ⊥
  pub status_is : c.status ≡ status.Elsewhere 0 (root fin.empty)
  pub untouched : c.after ≡ with_disk c.after.disk c.before
  pub unchanged : OnHistories c.before.disk.history c.after.disk.history (λ h g. HoldsLive (reads h) [] × LeavesFiles h g)
  pub calm : c.after.disk.faults ≡ c.before.disk.faults

-- a call opened no store, and left files with this history as they were, whatever its end. It ended as one that found none, unless the
-- disk failed or memory ran out
pub record FindsNoStore (c : ProgramCall) (h : History) : Type 0 where
  pub start : c.start ≡ None
  pub left : (g : History) × (c.after.disk.history ≡ Some g) × LeavesFiles h g
  pub ended : IsAbsentCall c ⊎ ((c.status ≡ status.DiskFault) ⊎ (c.status ≡ status.Memory))

-- ---- every such call
-- a call that was to resume a store. Files without a record it begins only if a new store has the announced root; otherwise it finds no
-- store in them (`absent`)
pub record IsResumedCall (c : ProgramCall) (version : ℕ) (announced : List ℕ) : Type 0 where
  pub opened : IfSome c.start (IsResumedOver c version announced)
  pub absent : (IsRootAt new_store version announced → ⊥) → ForSome c.before.disk.history (λ h. HoldsLive (reads h) [] → FindsNoStore c h)

-- what the opening of a store owes to a mode for which files without a record may not be initialised: they held one
abbrev pub HoldsFor : Mode → DiskView → Type 0
HoldsFor m disk = (MayBegin m → ⊥) → ForSome disk.history (λ h. HoldsLive (reads h) [] → ⊥)
