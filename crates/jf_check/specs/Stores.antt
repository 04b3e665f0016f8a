-- What two files represent, or their first place of damage, as an opening finds it; and how large a new checkpoint would be.
use Rattle.std.specs.Prelude.{◌≡◌, ℕ, List, [], ◌∷◌, length, Option, Some, None}
use Rattle.jf_disk.specs.Disk.{Files}
use Rattle.jf_disk.specs.Missing.{files_found}
use Rattle.jf_disk.specs.declared.side.Side.{Side}
use Rattle.jf_model.specs.Versions.{Versions}
use Rattle.jf_model.specs.Nodes.{kept_nodes}
use Rattle.jf_frame.specs.Framed.{LogRecord}
use Rattle.jf_frame.specs.Framing.{records, frame}
use Rattle.jf_pair.specs.Files.{HoldsLive, live_side}
use Rattle.jf_codec.specs.declared.format.Format.{Format}
use Rattle.jf_codec.specs.declared.format.Format.TheVariants as format
use Rattle.jf_payload.specs.Spelling.{checkpoint_kind, record_bytes}
use Rattle.jf_standing.specs.Standing.{Standing}
use Rattle.jf_standing.specs.Sound.{IsSound}
use Rattle.jf_standing.specs.Next.{IsReadStanding}
use Rattle.jf_standing.specs.Building.{new_standing, checkpoint_of}
use Rattle.jf_standing.specs.FormatLaws.{standing_in}
use Rattle.jf_files.specs.Files.{StandsFor, IsDamagedAt, LeadToStanding, records_of_side}
use Rattle.jf_check.specs.declared.store_check.StoreCheck.{StoreCheck}
use Rattle.jf_check.specs.declared.store_check.StoreCheck.TheVariants as store_check
use Rattle.jf_check.specs.declared.check.Check.{Check}
use Rattle.jf_check.specs.Sides.{side_shown}

-- ---- the live side
-- the live one of two sides with these records; none if neither has a record
abbrev pub live_among : List LogRecord → List LogRecord → Option Side
live_among [] [] = None
live_among [] (b ∷ right) = Some (live_side [] (b ∷ right))
live_among (a ∷ left) right = Some (live_side (a ∷ left) right)

-- the live side of two files
abbrev pub live_found : Files → Option Side
live_found files = live_among (records_of_side (records files.a)) (records_of_side (records files.b))

-- ---- a new checkpoint
-- records lead to a standing with counts: no records to that of a new store; others, if they lead to what their format keeps
-- of it
abbrev pub LeadToCounted : List LogRecord → Standing → Type 0
LeadToCounted [] s = s ≡ new_standing format.Two
LeadToCounted (x ∷ xs) s = (fmt : Format) × LeadToStanding (x ∷ xs) fmt (standing_in fmt s)

-- files hold a standing with counts: their live records lead to it
pub record HoldsCounted (files : Files) (s : Standing) : Type 0 where
  pub live : List LogRecord
  pub held : HoldsLive files live
  pub leads : LeadToCounted live s
  pub sound : IsSound format.Two s
  pub read : IsReadStanding s

-- the file that has the checkpoint of a standing alone, in a generation
abbrev pub checkpoint_file : ℕ → Standing → List ℕ
checkpoint_file g s = 1 ∷ frame (checkpoint_kind format.Two) (record_bytes format.Two (checkpoint_of g s))

-- the file of a new checkpoint would have n bytes, in whichever generation
pub record IsCheckpointSize (files : Files) (n : ℕ) : Type 0 where
  pub standing : Standing
  pub holds : HoldsCounted files standing
  pub size : (g : ℕ) → n ≡ length (checkpoint_file g standing)

-- ---- what an opening would find
-- files represent versions: which side is live, how many nodes the versions keep, and how large a new checkpoint would be
pub record IsSoundStore (files : Files) (live : Option Side) (kept checkpoint : ℕ) : Type 0 where
  pub versions : Versions
  pub stands : StandsFor files versions
  pub live_is : live ≡ live_found files
  pub kept_is : kept ≡ kept_nodes versions
  pub checkpoint_is : IsCheckpointSize files checkpoint

-- files are damaged first at this place, or represent versions
abbrev pub IsStoreCheck : Files → StoreCheck → Type 0
IsStoreCheck files (store_check.Damaged where_ at) = IsDamagedAt files where_ at
IsStoreCheck files (store_check.Sound live kept checkpoint) = IsSoundStore files live kept checkpoint

-- what two files show, each by itself and both together
pub record IsCheck (a b : Option (List ℕ)) (c : Check) : Type 0 where
  pub a_shown : c.a ≡ side_shown a
  pub b_shown : c.b ≡ side_shown b
  pub store_found : IsStoreCheck (files_found a b) c.store
