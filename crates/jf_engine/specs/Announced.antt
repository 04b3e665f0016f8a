-- The effect of a landing on an engine if the root of its last version is announced.
use Rattle.std.specs.Prelude.{◌≡◌, ◌≢◌, ℕ, List, Option, None, Some, IfSome, Result, MatchResult}
use Rattle.jf_hash.specs.Maps.{Batch}
use Rattle.jf_hash.specs.Roots.{root}
use Rattle.jf_model.specs.Versions.{Versions, newest, land_all}
use Rattle.jf_files.specs.Steps.{Lands}
use Rattle.jf_engine.specs.Engines.{Engine}
use Rattle.jf_engine.specs.EngineSteps.{CanStep, HasStepped, HasNotStepped}
use Rattle.jf_engine.specs.declared.fault.EngineFault.TheVariants as engine_fault
use Rattle.jf_engine.specs.declared.fault.LandFault.{LandFault}
use Rattle.jf_engine.specs.declared.fault.LandFault.TheVariants as land_fault

-- the root of the last version that batches lead to from versions
abbrev pub landed_root : Versions → List Batch → List ℕ
landed_root v bs = root (newest (land_all bs v))

-- the batches lead to the announced root, if one is announced
abbrev pub IsAnnounced : Option (List ℕ) → Versions → List Batch → Type 0
IsAnnounced announced v bs = IfSome announced (λ a. a ≡ landed_root v bs)

-- the landing didn't succeed: it reached the disk with the announced root, and the disk failed; or it was refused or memory
-- ran out; or it leads to another root than the announced one. In the last two cases the engine is unchanged
abbrev pub HasNotLandedRooted : Option (List ℕ) → List Batch → Engine → Engine → LandFault → Type 0
HasNotLandedRooted announced bs old new (land_fault.Refused engine_fault.DiskFault) = HasNotStepped (Lands bs) old new engine_fault.DiskFault × IsAnnounced announced old.versions bs
HasNotLandedRooted announced bs old new (land_fault.Refused why) = HasNotStepped (Lands bs) old new why
HasNotLandedRooted announced bs old new (land_fault.Differs found) = CanStep (Lands bs) old × (found ≡ landed_root old.versions bs) × (announced ≢ None) × (announced ≢ Some found) × (new ≡ old)

-- the landing of these batches, for whose last version a root may be announced, ended with this result
abbrev pub HasEndedRooted : {T : Type 0} → Option (List ℕ) → List Batch → Engine → Engine → Result T LandFault → Type 0
HasEndedRooted announced bs old new r = MatchResult r (λ x. HasStepped (Lands bs) old new × IsAnnounced announced old.versions bs) (HasNotLandedRooted announced bs old new)
