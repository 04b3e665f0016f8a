-- What an engine keeps of its files: they are in step with its pair, and hold its standing.
use Rattle.std.specs.Prelude.{ℕ, List, [], ◌∷◌, ◌≡◌, Option, Some, true, false}
use Rattle.jf_hash.specs.Maps.{map_of_entries}
use Rattle.jf_disk.specs.Disk.{DiskState, Files, History}
use Rattle.jf_frame.specs.Framed.{LogRecord}
use Rattle.jf_frame.specs.Logs.{appended_record}
use Rattle.jf_pair.specs.Files.{HoldsLive}
use Rattle.jf_pair.specs.Pairs.{Pair, IsInStep}
use Rattle.jf_codec.specs.declared.format.Format.{Format}
use Rattle.jf_codec.specs.declared.format.Format.TheVariants as format
use Rattle.jf_payload.specs.Spelling.{checkpoint_kind, record_bytes}
use Rattle.jf_standing.specs.Standing.{Standing}
use Rattle.jf_standing.specs.FormatLaws.{standing_in}
use Rattle.jf_standing.specs.Building.{checkpoint_of, imported_standing}
use Rattle.jf_files.specs.Files.{LeadToStanding, generation_in}

-- a disk is in step with a pair whose live records, in this format and generation, lead to this standing
pub record HoldsStandingOf (p : Pair) (fmt : Format) (s : Standing) (g : ℕ) (now : DiskState) : Type 0 where
  pub held : List LogRecord
  pub in_step : IsInStep p held now
  pub leads : LeadToStanding held fmt (standing_in fmt s)
  pub numbered : generation_in held ≡ g

-- a pair that has a live side and met no fault, and the files under it hold this standing
pub record KeepsStandingFiles (history : Option History) (p : Pair) (fmt : Format) (s : Standing) (g : ℕ) : Type 0 where
  pub live : p.is_live ≡ true
  pub sound : p.failed ≡ false
  pub holds : (h : History) → history ≡ Some h → HoldsStandingOf p fmt s g h.now

-- the checkpoint of a standing in format 2, as the first record of its file
abbrev pub checkpoint_at_start : ℕ → Standing → LogRecord
checkpoint_at_start g s = appended_record 0 (checkpoint_kind format.Two) (record_bytes format.Two (checkpoint_of g s))

-- two files hold one live record: the checkpoint, in a generation, of one version with these entries, whose nodes are all
-- named by that version
abbrev pub HoldImported : Files → ℕ → ℕ → List (List ℕ × List ℕ) → Type 0
HoldImported files generation version es = HoldsLive files (checkpoint_at_start generation (imported_standing format.Two version (map_of_entries es)) ∷ [])
