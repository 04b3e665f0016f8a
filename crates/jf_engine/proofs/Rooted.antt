-- The root of the last version that landings in memory lead to, and the one that is announced.
use Rattle.std.proofs.Common.{◌≡◌, ℕ, ◌+◌, ◌≤◌, ◌<◌, ◌^◌, List, length, Option, None, refl, subst, ap, ◌∙◌}
use Rattle.std.specs.Prelude.{IfSome}
use Rattle.std.specs.FinMap.{len}
use Rattle.std.specs.List.{AllByRecursion}
use Rattle.jf_hash.specs.Maps.{Batch, IsBatch}
use Rattle.jf_hash.specs.Roots.{root}
use Rattle.jf_model.specs.Versions.{newest}
use Rattle.jf_model.specs.Batches.{key_count}
use Rattle.jf_codec.specs.declared.format.Format.TheVariants as format
use Rattle.jf_standing.specs.Standing.{Standing, versions_of}
use Rattle.jf_standing.specs.Sound.{IsSound}
use Rattle.jf_standing.specs.Named.{not_stale}
use Rattle.jf_standing.specs.Next.{IsReadStanding}
use Rattle.jf_standing.specs.Landing.{head_map}
use Rattle.jf_standing.specs.Building.{all_landed}
use Rattle.jf_standing.specs.Laws.{GroupsLand}
use Rattle.jf_files.specs.Steps.{Lands}
use Rattle.jf_engine.specs.Engines.{Engine}
use Rattle.jf_engine.specs.EngineSteps.{HasNotStepped}
use Rattle.jf_engine.specs.Announced.{landed_root, IsAnnounced, HasNotLandedRooted}
use Rattle.jf_engine.specs.declared.fault.EngineFault.{EngineFault}
use Rattle.jf_engine.specs.declared.fault.EngineFault.TheVariants as engine_fault
use Rattle.jf_engine.specs.declared.fault.LandFault.{LandFault}
use Rattle.jf_engine.specs.declared.fault.LandFault.TheVariants as land_fault

module _ (group : GroupsLand) (s d : Standing) (bs : List Batch) (read : IsReadStanding s) (sound : IsSound format.Two s) (batches : AllByRecursion IsBatch bs) (room : len (head_map s) + key_count bs ≤ 2 ^ 63) (last : s.head + length bs < not_stale)
    (is : d ≡ all_landed format.Two s bs) where
  -- it is that of the versions after the batches
  pub landed-root : root (newest (versions_of d)) ≡ landed_root (versions_of s) bs
  landed-root = ap (λ (t : Standing). root (newest (versions_of t))) is ∙ ap (λ v. root (newest v)) (group format.Two s bs sound read.keys batches room last).2

  -- what has the root in memory has that of the versions
  pub root_announced : (a : Option (List ℕ)) → IfSome a (λ x. x ≡ root (newest (versions_of d))) → IsAnnounced a (versions_of s) bs
  root_announced a same = subst (λ r. IfSome a (λ x. x ≡ r)) landed-root same

refused_for : (a : Option (List ℕ)) (bs : List Batch) (old new : Engine) (why : EngineFault) → HasNotLandedRooted a bs old new (land_fault.Refused why) → HasNotStepped (Lands bs) old new why
refused_for a bs old new engine_fault.Broken e = e
refused_for a bs old new (engine_fault.Last number) e = e
refused_for a bs old new (engine_fault.NotEmpty head) e = e
refused_for a bs old new engine_fault.DiskFault e = e.0
refused_for a bs old new engine_fault.Memory e = e

module _ (bs : List Batch) (old new : Engine) (fault : LandFault) (ended : HasNotLandedRooted None bs old new fault) where
  -- a landing whose root isn't announced is refused as a step
  pub refused_step : (why : EngineFault) → fault ≡ land_fault.Refused why → HasNotStepped (Lands bs) old new why
  refused_step why is = refused_for None bs old new why (subst (HasNotLandedRooted None bs old new) is ended)

  -- it never leads to another root than the announced one
  pub never_differs : (found : List ℕ) → fault ≡ land_fault.Differs found → ⊥
  never_differs found is = (subst (HasNotLandedRooted None bs old new) is ended).2 refl
