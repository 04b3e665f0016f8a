-- What the two files of a disk were found to hold, before anything is written to them.
use Rattle.std.specs.Prelude.{◌≡◌, ◌≤◌, ◌-◌, ◌^◌, [], false}
use Rattle.jf_disk.specs.Crashes.{LeavesFiles}
use Rattle.jf_disk.specs.declared.side.Side.TheVariants as side
use Rattle.jf_pair.specs.Pairs.{Pair, IsInStep}
use Rattle.jf_standing.specs.Standing.{versions_of}
use Rattle.jf_engine.specs.Kept.{KeepsStandingFiles}
use Rattle.jf_engine.specs.Openings.{DiskView, HasReopened, HasFoundNoStore, OnHistories}
use Rattle.jf_engine.specs.declared.opening.Found.{Found}
use Rattle.jf_engine.specs.declared.opening.Sought.{Sought}
use Rattle.jf_engine.specs.declared.opening.Sought.TheVariants as sought

-- the files hold a record, and lead to what was found, which keeps them
pub record HasSoughtStore (old new : DiskView) (f : Found) : Type 0 where
  pub reopened : HasReopened old new (versions_of f.directory) f.generation
  pub kept : KeepsStandingFiles new.history f.pair f.format f.directory f.generation
  pub numbered : (1 ≤ f.generation) × (f.generation ≤ 2 ^ 64 - 2)

-- the files hold no record, and the pair is as its first checkpoint wants it
pub record HasSoughtPair (old new : DiskView) (p : Pair) : Type 0 where
  pub none : HasFoundNoStore old new
  pub in_step : OnHistories old.history new.history (λ h g. LeavesFiles h g × IsInStep p [] g.now)
  pub sound : p.failed ≡ false
  pub not_live : p.is_live ≡ false
  pub first : p.side ≡ side.B

-- what was found in the files
abbrev pub HasSought : DiskView → DiskView → Sought → Type 0
HasSought old new (sought.Recorded f) = HasSoughtStore old new f
HasSought old new (sought.Unrecorded p) = HasSoughtPair old new p
