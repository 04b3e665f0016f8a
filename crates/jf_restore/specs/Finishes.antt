-- The effect of finishing a restore on a store.
use Rattle.std.specs.Prelude.{◌≡◌, ◌≢◌, ℕ, ◌+◌, ◌-◌, ◌^◌, ◌<◌, ◌≤◌, length, None, true, false}
use Rattle.jf_path.specs.Faults.{HasCause}
use Rattle.jf_hash.specs.Maps.{map_of_entries}
use Rattle.jf_hash.specs.Roots.{part_root, root}
use Rattle.jf_model.specs.Versions.{imported_versions}
use Rattle.jf_disk.specs.Disk.{reads}
use Rattle.jf_files.specs.Steps.{Imports, StopsWell, Succeeds}
use Rattle.jf_evidence.specs.Ranges.{Entries}
use Rattle.jf_engine.specs.Engines.{Engine}
use Rattle.jf_engine.specs.Kept.{HoldImported}
pub use Rattle.jf_engine.specs.EngineSteps.{IsNewStore, IsInUse}
use Rattle.jf_engine.specs.Openings.{OnHistories}
use Rattle.jf_engine.specs.declared.fault.EngineFault.{EngineFault}
use Rattle.jf_engine.specs.declared.fault.EngineFault.TheVariants as engine_fault
use Rattle.jf_engine.specs.declared.fault.Which.TheVariants as which
use Rattle.jf_restore.specs.RestoreValue.{RestoreValue}
use Rattle.jf_restore.specs.declared.refused.RestoreRefused.{RestoreRefused}
use Rattle.jf_restore.specs.declared.refused.RestoreRefused.TheVariants as refused

-- these entries can be imported: no fault was met, the store is new, its generation may grow, and they are at most 2^62
pub record CanImport (e : Engine) (es : Entries) : Type 0 where
  pub sound : e.broken ≡ false
  pub unused : IsNewStore e.versions
  pub room : e.generation < 2 ^ 64 - 2
  pub few : length es ≤ 2 ^ 62

-- a version with these entries was imported: it is the one version, in the next generation; the files hold its checkpoint
-- alone; as a step the import succeeded, and no call on the disk failed
pub record HasImported (version : ℕ) (es : Entries) (old new : Engine) : Type 0 where
  pub could : CanImport old es
  pub versions_are : new.versions ≡ imported_versions version (map_of_entries es)
  pub generation_is : new.generation ≡ old.generation + 1
  pub whole : new.broken ≡ false
  pub least : old.moment + 4 ≤ new.moment
  pub most : new.moment ≤ old.moment + 10
  pub faults : new.faults ≡ old.faults
  pub checkpoint : OnHistories old.history new.history (λ h g. HoldImported (reads g) (old.generation + 1) version es)
  pub succeeds : OnHistories old.history new.history (λ h g. Succeeds (Imports version es) h g old.versions)
  pub unknown : old.history ≡ None → new.history ≡ None

-- the disk failed in the import of a version with these entries: the store is broken, and shows what it showed before; a
-- crash leaves the versions before the import or after it
pub record HasBrokenOff (version : ℕ) (es : Entries) (old new : Engine) : Type 0 where
  pub could : CanImport old es
  pub versions_are : new.versions ≡ old.versions
  pub generation_is : new.generation ≡ old.generation
  pub broken : new.broken ≡ true
  pub least : old.moment ≤ new.moment
  pub most : new.moment ≤ old.moment + 10
  pub faults : old.faults ≤ new.faults
  pub cause : HasCause old.faults new.faults
  pub stops : OnHistories old.history new.history (λ h g. StopsWell (Imports version es) h g old.versions)
  pub unknown : old.history ≡ None → new.history ≡ None

-- a version with these entries wasn't imported, by why: the first cause that holds, or no cause and the disk failed or memory
-- ran out. The store is unchanged, unless the disk failed
abbrev pub IsNotImported : ℕ → Entries → Engine → Engine → EngineFault → Type 0
IsNotImported version es old new engine_fault.Broken = (old.broken ≡ true) × (new ≡ old)
IsNotImported version es old new (engine_fault.NotEmpty head) = (old.broken ≡ false) × (head ≡ old.versions.head) × IsInUse old.versions × (new ≡ old)
IsNotImported version es old new (engine_fault.Last which.Generation) = (old.broken ≡ false) × IsNewStore old.versions × (old.generation ≡ 2 ^ 64 - 2) × (new ≡ old)
IsNotImported version es old new (engine_fault.Last which.Keys) = (old.broken ≡ false) × IsNewStore old.versions × (old.generation < 2 ^ 64 - 2) × (2 ^ 62 < length es) × (new ≡ old)
IsNotImported version es old new (engine_fault.Last which.Version) = ⊥
IsNotImported version es old new (engine_fault.Last which.Entries) = ⊥
IsNotImported version es old new engine_fault.DiskFault = HasBrokenOff version es old new
IsNotImported version es old new engine_fault.Memory = CanImport old es × (new ≡ old)

-- the root of the entries, which is that of their map, is the announced one
pub record HasAnnouncedRoot (r : RestoreValue) : Type 0 where
  pub of_entries : part_root 0 r.entries ≡ r.root
  pub of_map : root (map_of_entries r.entries) ≡ r.root

-- a restore of `count` entries was finished: they have the announced root, and were imported
pub record IsFinished (r : RestoreValue) (old new : Engine) (count : ℕ) : Type 0 where
  pub count_is : count ≡ length r.entries
  pub rooted : HasAnnouncedRoot r
  pub imported_so : HasImported r.version r.entries old new

-- a restore wasn't finished: its entries have another root, and the store is unchanged; or they have the announced one, and
-- weren't imported
abbrev pub IsNotFinished : RestoreValue → Engine → Engine → RestoreRefused → Type 0
IsNotFinished r old new (refused.Chunk why) = ⊥
IsNotFinished r old new (refused.NotWhole found) = (found ≡ part_root 0 r.entries) × (found ≢ r.root) × (new ≡ old)
IsNotFinished r old new (refused.Engine why) = HasAnnouncedRoot r × IsNotImported r.version r.entries old new why
IsNotFinished r old new refused.Memory = ⊥
