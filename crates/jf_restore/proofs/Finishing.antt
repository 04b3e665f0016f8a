-- The effect of an import on a store, from the effect of the step on it.
use Rattle.std.proofs.Common.{◌≡◌, ◌∙◌, ◌+◌, ℕ, ap, Result, Ok, Err}
use Rattle.std.specs.Prelude.{OnOk, MatchResult}
use Rattle.std.specs.FinMap as fin
use Rattle.jf_path.specs.Keys.{key_cmp}
use Rattle.jf_hash.specs.Maps.{map_of_entries}
use Rattle.jf_hash.specs.Roots.{part_root}
use Rattle.jf_hash.proofs.RootLaws.{root-part_root}
use Rattle.jf_disk.specs.Disk.{reads}
use Rattle.jf_files.specs.Steps.{Imports}
use Rattle.jf_evidence.specs.Ranges.{Entries}
use Rattle.jf_engine.specs.Engines.{Engine}
use Rattle.jf_engine.specs.EngineSteps.{CanStep, HasEnded}
use Rattle.jf_engine.specs.Kept.{HoldImported}
use Rattle.jf_engine.specs.Openings.{OnHistories}
use Rattle.jf_engine.specs.declared.fault.EngineFault.{EngineFault}
use Rattle.jf_engine.specs.declared.fault.EngineFault.TheVariants as engine_fault
use Rattle.jf_engine.specs.declared.fault.Which.TheVariants as which
use Rattle.jf_range.specs.Frontiers.{IsAscending}
use Rattle.jf_restore.specs.RestoreValue.{RestoreValue}
use Rattle.jf_restore.specs.Finishes.{CanImport, HasImported, IsNotImported, HasAnnouncedRoot}

module _ (version : ℕ) (es : Entries) (old new : Engine) where
  can_import : CanStep (Imports version es) old → CanImport old es
  can_import can = record { sound = can.0; unused = can.1.0; room = can.1.1; few = can.1.2 }

  -- the effect of an import on a store
  pub import_makes : (r : Result (Unit {0}) EngineFault) → HasEnded (Imports version es) old new r → OnOk r (OnHistories old.history new.history (λ h g. HoldImported (reads g) (old.generation + 1) version es))
      → MatchResult r (λ _. HasImported version es old new) (IsNotImported version es old new)
  import_makes (Ok u) s held = record {
    could = can_import s.could;
    versions_are = s.versions_are;
    generation_is = s.generation_is;
    whole = s.whole;
    least = s.least;
    most = s.most;
    faults = s.faults;
    checkpoint = held;
    succeeds = s.disk;
    unknown = s.unknown;
  }
  import_makes (Err engine_fault.Broken) e held = e
  import_makes (Err (engine_fault.NotEmpty head)) e held = (e.0.0, e.0.1.0, e.0.1.1, e.1)
  import_makes (Err (engine_fault.Last which.Generation)) e held = (e.0.0, e.0.1.0, e.0.1.1, e.1)
  import_makes (Err (engine_fault.Last which.Keys)) e held = (e.0.0, e.0.1.0, e.0.1.1, e.0.1.2, e.1)
  import_makes (Err (engine_fault.Last which.Version)) e held = absurd e.0.1
  import_makes (Err (engine_fault.Last which.Entries)) e held = absurd e.0.1
  import_makes (Err engine_fault.DiskFault) t held = record {
    could = can_import t.could;
    versions_are = t.versions_are;
    generation_is = t.generation_is;
    broken = t.broken;
    least = t.later;
    most = t.most;
    faults = t.faults;
    cause = t.cause;
    stops = t.disk;
    unknown = t.unknown;
  }
  import_makes (Err engine_fault.Memory) e held = (can_import e.0, e.1)

-- entries that rise have the root of their map
pub announced : (r : RestoreValue) → IsAscending r.entries → part_root 0 r.entries ≡ r.root → HasAnnouncedRoot r
announced r rises is = record { of_entries = is; of_map = root-part_root (map_of_entries r.entries) ∙ ap (part_root 0) (fin.entries-from_sorted key_cmp r.entries rises.sorted) ∙ is }
