-- The effect of a step on an engine: it succeeds, it is refused for the first cause that holds, memory runs out, or the disk
-- fails.
use Rattle.std.specs.Prelude.{◌≡◌, ◌⊎◌, ℕ, ◌+◌, ◌-◌, ◌^◌, ◌<◌, ◌≤◌, length, true, false, None, Some, Result, MatchResult, ⊤}
use Rattle.std.specs.FinMap as fin
use Rattle.jf_path.specs.Faults.{HasCause}
use Rattle.jf_model.specs.Versions.{Versions, newest}
use Rattle.jf_disk.specs.Disk.{History}
use Rattle.jf_files.specs.Steps.{StoreStep, Opens, Lands, Prunes, Compacts, Imports, versions_after_step, generation_after_step, StopsWell, Succeeds}
use Rattle.jf_engine.specs.Engines.{Engine}
use Rattle.jf_engine.specs.Openings.{OnHistories}
use Rattle.jf_engine.specs.declared.fault.EngineFault.{EngineFault}
use Rattle.jf_engine.specs.declared.fault.EngineFault.TheVariants as engine_fault
use Rattle.jf_engine.specs.declared.fault.Which.{Which}
use Rattle.jf_engine.specs.declared.fault.Which.TheVariants as which

-- ---- when a step can be taken
-- the head is version 0, and its map has no entry
abbrev pub IsNewStore : Versions → Type 0
IsNewStore v = (v.head ≡ 0) × (fin.len (newest v) ≡ 0)

-- the head is a later version, or its map has an entry
abbrev pub IsInUse : Versions → Type 0
IsInUse v = (1 ≤ v.head) ⊎ (1 ≤ fin.len (newest v))

-- each number that the step makes greater may grow so far, and an import finds a new store. A store that is open isn't opened
abbrev pub HasRoomFor : StoreStep → Engine → Type 0
HasRoomFor Opens e = ⊥
HasRoomFor (Lands bs) e = (e.versions.head + length bs ≤ 2 ^ 64 - 2) × (fin.len (newest e.versions) ≤ 2 ^ 62)
HasRoomFor (Prunes floor) e = ⊤
HasRoomFor Compacts e = e.generation < 2 ^ 64 - 2
HasRoomFor (Imports version es) e = IsNewStore e.versions × (e.generation < 2 ^ 64 - 2) × (length es ≤ 2 ^ 62)

-- no call before met a fault of the disk, and there is room for the step
abbrev pub CanStep : StoreStep → Engine → Type 0
CanStep step e = (e.broken ≡ false) × HasRoomFor step e

-- this number is the first that is too great for the step, in the order version, generation, keys. An import asks for a
-- new store first
abbrev pub IsLast : StoreStep → Which → Engine → Type 0
IsLast (Lands bs) which.Version e = 2 ^ 64 - 2 < e.versions.head + length bs
IsLast (Lands bs) which.Keys e = (e.versions.head + length bs ≤ 2 ^ 64 - 2) × (2 ^ 62 < fin.len (newest e.versions))
IsLast Compacts which.Generation e = e.generation ≡ 2 ^ 64 - 2
IsLast (Imports version es) which.Generation e = IsNewStore e.versions × (e.generation ≡ 2 ^ 64 - 2)
IsLast (Imports version es) which.Keys e = IsNewStore e.versions × (e.generation < 2 ^ 64 - 2) × (2 ^ 62 < length es)
IsLast step number e = ⊥

-- an import finds a store in use, whose head is this version
abbrev pub FindsHead : StoreStep → ℕ → Engine → Type 0
FindsHead (Imports version es) head e = (head ≡ e.versions.head) × IsInUse e.versions
FindsHead step head e = ⊥

-- a step that takes memory can be taken. A floor takes none
abbrev pub CanRunOut : StoreStep → Engine → Type 0
CanRunOut (Prunes floor) e = ⊥
CanRunOut step e = CanStep step e

-- the step is refused for this cause, the first that holds, or memory ran out, before it reaches the disk
abbrev pub IsRefusedFor : StoreStep → Engine → EngineFault → Type 0
IsRefusedFor step e engine_fault.Broken = e.broken ≡ true
IsRefusedFor step e (engine_fault.Last number) = (e.broken ≡ false) × IsLast step number e
IsRefusedFor step e (engine_fault.NotEmpty head) = (e.broken ≡ false) × FindsHead step head e
IsRefusedFor step e engine_fault.DiskFault = ⊥
IsRefusedFor step e engine_fault.Memory = CanRunOut step e

-- ---- the effect of a step on an engine
-- the most calls on the disk in a step: write and sync of a record and of its gate; and before them those that empty a file.
-- An opening is no step of an engine: none can take it, so its calls aren't counted here
abbrev pub call_limit : StoreStep → ℕ
call_limit Opens = 0
call_limit (Lands bs) = 4
call_limit (Prunes floor) = 4
call_limit Compacts = 10
call_limit (Imports version es) = 10

-- the history of an engine's disk has a state for each moment
abbrev pub IsDatedEngine : Engine → Type 0
IsDatedEngine e = (h : History) → e.history ≡ Some h → length h.before ≡ e.moment

-- the step succeeded, in four calls on the disk or more, of which none failed
pub record HasStepped (step : StoreStep) (old new : Engine) : Type 0 where
  pub could : CanStep step old
  pub versions_are : new.versions ≡ versions_after_step step old.versions
  pub generation_is : new.generation ≡ generation_after_step step old.generation
  pub whole : new.broken ≡ false
  pub least : old.moment + 4 ≤ new.moment
  pub most : new.moment ≤ old.moment + call_limit step
  pub faults : new.faults ≡ old.faults
  pub unknown : old.history ≡ None → new.history ≡ None
  pub began : IsDatedEngine old
  pub dated : IsDatedEngine new
  pub disk : OnHistories old.history new.history (λ h g. Succeeds step h g old.versions)

-- the disk failed in the step: the engine is broken and shows the versions from before; a crash leaves them or those after it
pub record HasStopped (step : StoreStep) (old new : Engine) : Type 0 where
  pub could : CanStep step old
  pub versions_are : new.versions ≡ old.versions
  pub generation_is : new.generation ≡ old.generation
  pub broken : new.broken ≡ true
  pub later : old.moment ≤ new.moment
  pub most : new.moment ≤ old.moment + call_limit step
  pub faults : old.faults ≤ new.faults
  pub cause : HasCause old.faults new.faults
  pub unknown : old.history ≡ None → new.history ≡ None
  pub began : IsDatedEngine old
  pub disk : OnHistories old.history new.history (λ h g. StopsWell step h g old.versions)

-- the step didn't succeed: the disk failed, or it was refused or memory ran out, and the engine is unchanged
abbrev pub HasNotStepped : StoreStep → Engine → Engine → EngineFault → Type 0
HasNotStepped step old new engine_fault.DiskFault = HasStopped step old new
HasNotStepped step old new why = IsRefusedFor step old why × (new ≡ old)

-- the step ended with this result
abbrev pub HasEnded : {T : Type 0} → StoreStep → Engine → Engine → Result T EngineFault → Type 0
HasEnded step old new r = MatchResult r (λ x. HasStepped step old new) (HasNotStepped step old new)
