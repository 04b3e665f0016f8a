-- A pair of files as its callers see it, when a disk is in step with it, and what a crash in its calls may leave.
use Rattle.std.specs.Prelude.{ℕ, Bool, ◌≡◌, ◌↔◌, ◌<◌, true, List, length, Ok, ◌⊎◌, [], Option, Some, None}
use Rattle.jf_disk.specs.declared.side.Side.{Side}
use Rattle.jf_disk.specs.Disk.{DiskState, content_on, durable, History}
use Rattle.jf_disk.specs.Crashes.{opposite, GoesOn}
use Rattle.jf_frame.specs.Framed.{LogRecord}
use Rattle.jf_frame.specs.Framing.{records}
use Rattle.jf_frame.specs.Logs.{IsReady, Log}
use Rattle.jf_pair.specs.Files.{is_begun, IsOlder, HoldsLive}

-- a pair as its callers see it: a side, and whether it is live; the offset of that side's closed gate; and whether a
-- call met a fault. The next checkpoint goes to the other side.
pub record Pair : Type 0 where
  pub side : Side
  pub is_live : Bool
  pub offset : ℕ
  pub failed : Bool

-- a disk is in step with a pair: both sides are synced; the pair's side holds the records `rs` and, if it is live, is
-- ready for one more; the other side holds records of a lesser generation, or no record
pub record IsInStep (p : Pair) (rs : List LogRecord) (s : DiskState) : Type 0 where
  pub others : List LogRecord
  pub quiet : content_on p.side s ≡ durable (content_on p.side s).bytes
  pub quiet_across : content_on (opposite p.side) s ≡ durable (content_on (opposite p.side) s).bytes
  pub held : records (content_on p.side s).bytes ≡ Ok rs
  pub held_across : records (content_on (opposite p.side) s).bytes ≡ Ok others
  pub begun : is_begun rs ≡ true
  pub begun_across : is_begun others ≡ true
  pub older : IsOlder others rs
  pub live : (p.is_live ≡ true) ↔ (0 < length rs)
  pub ready : p.is_live ≡ true → IsReady p.side p.offset rs s

-- a crash leaves the live records `rs` or the live records `rs'`
abbrev pub StopsBetween : History → History → List LogRecord → List LogRecord → Type 0
StopsBetween old new rs rs' = GoesOn old new (λ f. HoldsLive f rs ⊎ HoldsLive f rs')

-- the records of the log that an opening returns; no record if it returns no log
abbrev pub log_records : Option Log → List LogRecord
log_records None = []
log_records (Some log) = log.records
