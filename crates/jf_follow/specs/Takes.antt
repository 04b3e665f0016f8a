-- The effect of one announced landing on a store, by the result.
use Rattle.std.specs.Prelude.{◌≡◌, ◌⊎◌, ◌+◌, [], ◌∷◌, Result, Ok, Err, true, false}
use Rattle.jf_model.specs.Versions.{Versions}
use Rattle.jf_files.specs.Steps.{Lands}
use Rattle.jf_engine.specs.Engines.{Engine}
use Rattle.jf_engine.specs.EngineSteps.{HasStepped, HasStopped}
use Rattle.jf_engine.specs.declared.landed.Landed.{Landed}
use Rattle.jf_lead.specs.declared.block.LandingBlock.{LandingBlock}
use Rattle.jf_follow.specs.declared.fault.FollowFault.{FollowFault}
use Rattle.jf_follow.specs.declared.fault.FollowFault.TheVariants as fault
use Rattle.jf_follow.specs.declared.judging.Judgement.{Judgement}
use Rattle.jf_follow.specs.declared.judging.Judgement.TheVariants as judged
use Rattle.jf_follow.specs.declared.taken.Taken.{Taken}
use Rattle.jf_follow.specs.declared.taken.Taken.TheVariants as taken
use Rattle.jf_follow.specs.Following.{judgement}

-- the next version landed, as one step of the files
abbrev pub LandsOn : LandingBlock → Engine → Engine → Type 0
LandsOn b old new = (judgement old.versions b ≡ judged.Next) × HasStepped (Lands (b.batch ∷ [])) old new

-- the disk failed in the landing of the next version
abbrev pub BreaksAt : LandingBlock → Engine → Engine → Type 0
BreaksAt b old new = (judgement old.versions b ≡ judged.Next) × HasStopped (Lands (b.batch ∷ [])) old new

-- a landing is reported: its version, the root of its map, and the moment of the disk after it
abbrev pub TellsOf : LandingBlock → Engine → Landed → Type 0
TellsOf b new l = (l.version ≡ b.version) × (l.root ≡ b.root) × (l.moment ≡ new.moment)

-- the store is whole, and nothing changed
abbrev pub IsUnchanged : Engine → Engine → Type 0
IsUnchanged old new = (old.broken ≡ false) × (new ≡ old)

-- the effect of an announced landing on a store: it was there already, or it landed; or the store was broken; or the disk
-- failed in the landing; or memory ran out, which comes for the next version alone; or the table refuses it
abbrev pub TakesBlock : LandingBlock → Engine → Engine → Result Taken FollowFault → Type 0
TakesBlock b old new (Ok taken.Already) = (judgement old.versions b ≡ judged.Known) × IsUnchanged old new
TakesBlock b old new (Ok (taken.Landed l)) = LandsOn b old new × TellsOf b new l
TakesBlock b old new (Err fault.Broken) = (old.broken ≡ true) × (new ≡ old)
TakesBlock b old new (Err fault.DiskFault) = BreaksAt b old new
TakesBlock b old new (Err fault.Memory) = (b.version ≡ old.versions.head + 1) × IsUnchanged old new
TakesBlock b old new (Err why) = (judgement old.versions b ≡ judged.Refused why) × IsUnchanged old new

-- ---- the table
-- memory ran out for the version after the head
abbrev pub LacksMemory : LandingBlock → Versions → Result Taken FollowFault → Type 0
LacksMemory b v r = (b.version ≡ v.head + 1) × (r ≡ Err fault.Memory)

-- the result that a judgement of a landing by versions asks for; a landing may meet a fault of the disk or an end of memory, and
-- a refusal of the next version an end of memory
abbrev pub IsResultFor : LandingBlock → Versions → Judgement → Result Taken FollowFault → Type 0
IsResultFor b v judged.Known r = r ≡ Ok taken.Already
IsResultFor b v judged.Next r = ((l : Landed) × (r ≡ Ok (taken.Landed l))) ⊎ (r ≡ Err fault.DiskFault) ⊎ LacksMemory b v r
IsResultFor b v (judged.Refused why) r = (r ≡ Err why) ⊎ LacksMemory b v r

-- a broken store refuses each landing, and a whole one does with it what the table says
abbrev pub ResultsAreExact : Type 0
ResultsAreExact = (b : LandingBlock) (old new : Engine) (r : Result Taken FollowFault) → TakesBlock b old new r
    → (old.broken ≡ true → r ≡ Err fault.Broken) × (old.broken ≡ false → IsResultFor b old.versions (judgement old.versions b) r)
