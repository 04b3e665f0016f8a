-- The effect of one announced landing on a store.
use Rattle.std.proofs.Common.{◌≡◌, inl, inr, ℕ, ◌+◌, ◌<◌, ◌≤◌, ◌^◌, ◌-◌, List, [], ◌∷◌, Some, Result, Ok, Err, true, false, true≢false, refl, ap, sym, ◌∙◌, subst, arith}
use Rattle.std.specs.Prelude.{◌↔◌}
use Rattle.jf_model.specs.Versions.{Versions}
use Rattle.jf_files.specs.Steps.{Lands}
use Rattle.jf_engine.specs.Engines.{Engine}
use Rattle.jf_engine.specs.Announced.{IsAnnounced, HasNotLandedRooted}
use Rattle.jf_engine.specs.EngineSteps.{CanStep, HasStepped, IsLast}
use Rattle.jf_engine.specs.declared.landed.Landed.{Landed}
use Rattle.jf_engine.specs.declared.fault.Which.{Which}
use Rattle.jf_engine.specs.declared.fault.Which.TheVariants as which
use Rattle.jf_engine.specs.declared.fault.EngineFault.TheVariants as engine_fault
use Rattle.jf_engine.specs.declared.fault.LandFault.{LandFault}
use Rattle.jf_engine.specs.declared.fault.LandFault.TheVariants as land_fault
use Rattle.jf_lead.specs.declared.block.LandingBlock.{LandingBlock}
use Rattle.jf_follow.specs.declared.fault.FollowFault.{FollowFault}
use Rattle.jf_follow.specs.declared.fault.FollowFault.TheVariants as follow_fault
use Rattle.jf_follow.specs.declared.judging.Judgement.{Judgement}
use Rattle.jf_follow.specs.declared.judging.Judgement.TheVariants as judged
use Rattle.jf_follow.specs.declared.taken.Taken.{Taken}
use Rattle.jf_follow.specs.declared.taken.Taken.TheVariants as taken
use Rattle.jf_follow.specs.Following.{judgement, is_at_limit}
use Rattle.jf_follow.specs.Takes.{TakesBlock, IsResultFor, ResultsAreExact}
use Rattle.jf_follow.proofs.Judgements.{judged_known, limit_of_head, limit_of_map, no_limit, of_table, row_differs, row_last, row_next}

-- ---- a refusal
-- what the table refuses leaves the store
pub refused_so : (why : FollowFault) (b : LandingBlock) (e : Engine) → e.broken ≡ false → judgement e.versions b ≡ judged.Refused why → TakesBlock b e e (Err why)
refused_so follow_fault.Broken b e whole is = absurd (of_table e.versions b follow_fault.Broken is)
refused_so follow_fault.DiskFault b e whole is = absurd (of_table e.versions b follow_fault.DiskFault is)
refused_so follow_fault.Memory b e whole is = absurd (of_table e.versions b follow_fault.Memory is)
refused_so (follow_fault.Below base) b e whole is = (is, (whole, refl))
refused_so (follow_fault.Differs version announced found) b e whole is = (is, (whole, refl))
refused_so (follow_fault.Gap head) b e whole is = (is, (whole, refl))
refused_so follow_fault.Last b e whole is = (is, (whole, refl))

-- ---- a landing of the next version
module _ (b : LandingBlock) (old new : Engine) (low : old.versions.base ≤ old.versions.head) (follows : b.version ≡ old.versions.head + 1) where
  -- a landing that may be made isn't at a limit
  not_limited : CanStep (Lands (b.batch ∷ [])) old → is_at_limit old.versions ≡ false
  not_limited could = let room = could.1 in let head : old.versions.head + 1 ≤ 2 ^ 64 - 2 = room.0 in no_limit old.versions (omega (arith, head)) room.1

  -- with the announced root it is the next version
  is_next : CanStep (Lands (b.batch ∷ [])) old → IsAnnounced (Some b.root) old.versions (b.batch ∷ []) → judgement old.versions b ≡ judged.Next
  is_next could announced = row_next old.versions b low follows (not_limited could) (sym announced)

  -- it was made
  pub landed_taken : (l : Landed) → HasStepped (Lands (b.batch ∷ [])) old new × IsAnnounced (Some b.root) old.versions (b.batch ∷ [])
      → (l.version ≡ new.versions.head) × (l.root ≡ b.root) × (l.moment ≡ new.moment) → TakesBlock b old new (Ok (taken.Landed l))
  landed_taken l done answer = (
    (is_next done.0.could done.1, done.0),
    (answer.0 ∙ ap (λ (v : Versions). v.head) done.0.versions_are ∙ sym follows, answer.1, answer.2),
  )

  -- a number that may not grow further is at its limit
  by_limit : (number : Which) → IsLast (Lands (b.batch ∷ [])) number old → is_at_limit old.versions ≡ true
  by_limit which.Version last = let high : 2 ^ 64 - 2 < old.versions.head + 1 = last in limit_of_head old.versions (omega (arith, high))
  by_limit which.Keys last = limit_of_map old.versions last.1
  by_limit which.Generation last = absurd last
  by_limit which.Entries last = absurd last

  module _ (fault : LandFault) (ended : HasNotLandedRooted (Some b.root) (b.batch ∷ []) old new fault) where
    -- it wasn't made, for this cause
    ended_by : (cause : LandFault) → fault ≡ cause → HasNotLandedRooted (Some b.root) (b.batch ∷ []) old new cause
    ended_by cause is = subst (HasNotLandedRooted (Some b.root) (b.batch ∷ []) old new) is ended

    -- it leads to another root
    pub differs_taken : (found : List ℕ) → fault ≡ land_fault.Differs found → TakesBlock b old new (Err (follow_fault.Differs b.version b.root found))
    differs_taken found is =
        let e = ended_by (land_fault.Differs found) is in (
          subst (λ r. judgement old.versions b ≡ judged.Refused (follow_fault.Differs b.version b.root r)) (sym e.1)
              (row_differs old.versions b low follows (not_limited e.0) (λ same. e.3 (ap Some (sym same ∙ sym e.1)))),
          (e.0.0, e.4),
        )

    -- a number may not grow further
    pub last_taken : (number : Which) → fault ≡ land_fault.Refused (engine_fault.Last number) → TakesBlock b old new (Err follow_fault.Last)
    last_taken number is = let e = ended_by (land_fault.Refused (engine_fault.Last number)) is in (row_last old.versions b low follows (by_limit number e.0.1), (e.0.0, e.1))

    -- the disk failed
    pub fault_taken : fault ≡ land_fault.Refused engine_fault.DiskFault → TakesBlock b old new (Err follow_fault.DiskFault)
    fault_taken is = let e = ended_by (land_fault.Refused engine_fault.DiskFault) is in (is_next e.0.could e.1, e.0)

    -- memory ran out
    pub memory_taken : fault ≡ land_fault.Refused engine_fault.Memory → TakesBlock b old new (Err follow_fault.Memory)
    memory_taken is = let e = ended_by (land_fault.Refused engine_fault.Memory) is in (follows, (e.0.0, e.1))

-- ---- a broken store
module _ (b : LandingBlock) (old new : Engine) where
  -- only a broken store says so
  says_broken : (r : Result Taken FollowFault) → (r ≡ Err follow_fault.Broken → ⊥) → old.broken ≡ false → (r ≡ Err follow_fault.Broken) ↔ (old.broken ≡ true)
  says_broken r other whole = (λ e. absurd (other e), λ broken. absurd (true≢false (sym broken ∙ whole)))

  pub broken_by : (r : Result Taken FollowFault) → TakesBlock b old new r → (r ≡ Err follow_fault.Broken) ↔ (old.broken ≡ true)
  broken_by (Ok taken.Already) t = says_broken (Ok taken.Already) (λ e. absurd (cc)) t.1.0
  broken_by (Ok (taken.Landed l)) t = says_broken (Ok (taken.Landed l)) (λ e. absurd (cc)) t.0.1.could.0
  broken_by (Err follow_fault.Broken) t = (λ e. t.0, λ broken. refl)
  broken_by (Err follow_fault.DiskFault) t = says_broken (Err follow_fault.DiskFault) (λ e. absurd (cc)) t.1.could.0
  broken_by (Err follow_fault.Memory) t = says_broken (Err follow_fault.Memory) (λ e. absurd (cc)) t.1.0
  broken_by (Err (follow_fault.Below base)) t = says_broken (Err (follow_fault.Below base)) (λ e. absurd (cc)) t.1.0
  broken_by (Err (follow_fault.Differs version announced found)) t = says_broken (Err (follow_fault.Differs version announced found)) (λ e. absurd (cc)) t.1.0
  broken_by (Err (follow_fault.Gap head)) t = says_broken (Err (follow_fault.Gap head)) (λ e. absurd (cc)) t.1.0
  broken_by (Err follow_fault.Last) t = says_broken (Err follow_fault.Last) (λ e. absurd (cc)) t.1.0

  -- ---- the table
  -- memory runs out for the next version alone, which isn't known
  by_memory : (j : Judgement) → judgement old.versions b ≡ j → b.version ≡ old.versions.head + 1 → IsResultFor b old.versions j (Err follow_fault.Memory)
  by_memory judged.Known is next = let high = (judged_known old.versions b is).high in absurd (omega (arith, high, next))
  by_memory judged.Next is next = inr (inr (next, refl))
  by_memory (judged.Refused why) is next = inr (next, refl)

  by_table : (why : FollowFault) → judgement old.versions b ≡ judged.Refused why → IsResultFor b old.versions (judgement old.versions b) (Err why)
  by_table why is = subst (λ j. IsResultFor b old.versions j (Err why)) (sym is) (inl refl)

  by_judgement : (r : Result Taken FollowFault) → old.broken ≡ false → TakesBlock b old new r → IsResultFor b old.versions (judgement old.versions b) r
  by_judgement (Ok taken.Already) whole t = subst (λ j. IsResultFor b old.versions j (Ok taken.Already)) (sym t.0) refl
  by_judgement (Ok (taken.Landed l)) whole t = subst (λ j. IsResultFor b old.versions j (Ok (taken.Landed l))) (sym t.0.0) (inl (l, refl))
  by_judgement (Err follow_fault.Broken) whole t = absurd (true≢false (sym t.0 ∙ whole))
  by_judgement (Err follow_fault.DiskFault) whole t = subst (λ j. IsResultFor b old.versions j (Err follow_fault.DiskFault)) (sym t.0) (inr (inl refl))
  by_judgement (Err follow_fault.Memory) whole t = by_memory (judgement old.versions b) refl t.0
  by_judgement (Err (follow_fault.Below base)) whole t = by_table (follow_fault.Below base) t.0
  by_judgement (Err (follow_fault.Differs version announced found)) whole t = by_table (follow_fault.Differs version announced found) t.0
  by_judgement (Err (follow_fault.Gap head)) whole t = by_table (follow_fault.Gap head) t.0
  by_judgement (Err follow_fault.Last) whole t = by_table follow_fault.Last t.0

pub results-exact : ResultsAreExact
results-exact b old new r t = ((broken_by b old new r t).1, λ whole. by_judgement b old new r whole t)
