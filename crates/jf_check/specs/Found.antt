-- What is found of live records, before both files are judged.
use Rattle.std.specs.Prelude.{◌≡◌, ℕ, List, length, Option, Some}
use Rattle.jf_disk.specs.declared.side.Side.{Side}
use Rattle.jf_frame.specs.Framed.{LogRecord}
use Rattle.jf_codec.specs.declared.format.Format.{Format}
use Rattle.jf_codec.specs.declared.format.Format.TheVariants as format
use Rattle.jf_model.specs.Nodes.{kept_nodes}
use Rattle.jf_standing.specs.Standing.{Standing, versions_of}
use Rattle.jf_standing.specs.Sound.{IsSound}
use Rattle.jf_standing.specs.Next.{IsReadStanding}
use Rattle.jf_standing.specs.FormatLaws.{standing_in}
use Rattle.jf_files.specs.Files.{LeadToStanding, IsUnsoundAt}
use Rattle.jf_check.specs.declared.store_check.StoreCheck.{StoreCheck}
use Rattle.jf_check.specs.declared.store_check.StoreCheck.TheVariants as store_check
use Rattle.jf_check.specs.Stores.{checkpoint_file}

-- a sound standing with counts is reported: how many nodes its versions keep, and how large its checkpoint would be
pub record IsSized (s : Standing) (kept checkpoint : ℕ) : Type 0 where
  pub sound : IsSound format.Two s
  pub read : IsReadStanding s
  pub kept_is : kept ≡ kept_nodes (versions_of s)
  pub size : (g : ℕ) → checkpoint ≡ length (checkpoint_file g s)

-- a store with this standing and this live side
abbrev pub IsSizedStore : Option Side → Standing → StoreCheck → Type 0
IsSizedStore live s (store_check.Damaged where_ at) = ⊥
IsSizedStore live s (store_check.Sound found kept checkpoint) = (found ≡ live) × IsSized s kept checkpoint

-- live records of this side: the first one that isn't sound, or the standing that they lead to
abbrev pub IsLiveCheck : Side → List LogRecord → StoreCheck → Type 0
IsLiveCheck where_ rs (store_check.Damaged found at) = (found ≡ where_) × IsUnsoundAt rs at
IsLiveCheck where_ rs (store_check.Sound live kept checkpoint) = (live ≡ Some where_) × (s : Standing) × (fmt : Format) × LeadToStanding rs fmt (standing_in fmt s) × IsSized s kept checkpoint
